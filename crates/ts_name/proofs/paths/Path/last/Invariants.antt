use Rattle.std.proofs.Common.{length}
use Rattle.ts_name.proofs.Buffers.{LastSoFar}
use Rattle.ts_name.proofs.paths.Path.last.Given as goal

abbrev pub invariant-loop-name : goal.invariant-loop-name
invariant-loop-name l = LastSoFar l.self l.rest l.last

abbrev pub decreases-loop-name : goal.decreases-loop-name
decreases-loop-name l = length l.rest
