use Rattle.std.proofs.Common.{◌-◌}
use Rattle.ts_check.proofs.Complete.{AreBefore}
use Rattle.ts_check.proofs.pieces.has_all.Given as goal

abbrev pub invariant-loop-offset : goal.invariant-loop-offset
invariant-loop-offset l = AreBefore l.staged l.e l.row l.offset

abbrev pub decreases-loop-offset : goal.decreases-loop-offset
decreases-loop-offset l = l.size - l.offset
