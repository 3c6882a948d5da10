use Rattle.std.proofs.Common.{length}
use Rattle.ts_name.proofs.Buffers.{GoodSoFar}
use Rattle.ts_name.proofs.buffer.has_good_names.Given as goal

abbrev pub invariant-loop-name : goal.invariant-loop-name
invariant-loop-name l = GoodSoFar l.bytes l.rest

abbrev pub decreases-loop-name : goal.decreases-loop-name
decreases-loop-name l = length l.rest
