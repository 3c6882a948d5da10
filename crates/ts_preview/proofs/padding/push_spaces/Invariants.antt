use Rattle.std.proofs.Common.{◌≡◌, ◌++◌, replicate}
use Rattle.ts_preview.proofs.padding.push_spaces.Given as goal

abbrev pub invariant-loop-i : goal.invariant-loop-i
invariant-loop-i l = l.line.items ≡ l.fn.line.items ++ replicate l._i 32
