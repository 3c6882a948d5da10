use Rattle.std.proofs.Common.{◌+◌, ◌%◌}
use Rattle.ts_check.proofs.Nearests.{IsCandidate}
use Rattle.ts_check.proofs.entries.nearest_of.Given as goal

abbrev pub invariant-loop-at : goal.invariant-loop-at
invariant-loop-at l = IsCandidate l.entries l.i l.at

abbrev pub decreases-loop-at : goal.decreases-loop-at
decreases-loop-at l = (l.at + 1) % 4294967296
