use Rattle.std.proofs.Common.{length}
use Rattle.ts_name.proofs.Escapes.{ReadSoFar}
use Rattle.ts_name.proofs.escape.unescaped.Given as goal

abbrev pub invariant-loop-rest : goal.invariant-loop-rest
invariant-loop-rest l = ReadSoFar l.text l.rest l.bytes.items

abbrev pub decreases-loop-rest : goal.decreases-loop-rest
decreases-loop-rest l = length l.rest
