use Rattle.std.proofs.Common.{◌≡◌, ◌++◌, drop}
use Rattle.ts_preview.specs.Names.{shown}
use Rattle.ts_preview.proofs.shown.push_shown.Given as goal

abbrev pub invariant-loop-i : goal.invariant-loop-i
invariant-loop-i l = l.line.items ++ shown l.left (drop l.i l.text) ≡ l.fn.line.items ++ shown 0 l.text
