use Rattle.std.proofs.Common.{◌≡◌, ◌++◌, take}
use Rattle.ts_name.specs.Paths.{name_text}
use Rattle.ts_name.proofs.escape.push_escaped.Given as goal

abbrev pub invariant-loop-b : goal.invariant-loop-b
invariant-loop-b l = l.out.items ≡ l.fn.out.items ++ name_text (take l.b-index l.bytes)
