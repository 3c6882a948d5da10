use Rattle.std.proofs.Common.{◌-◌, ◌≤◌, length}
use Rattle.ts_check.proofs.Rowed.{LiesIn}
use Rattle.ts_check.proofs.order.row_of.Given as goal

abbrev pub invariant-loop-low : goal.invariant-loop-low
invariant-loop-low l = record {
  within : l.high ≤ length l.rows;
  lies : LiesIn l.rows l.p l.low l.high;
}

abbrev pub decreases-loop-low : goal.decreases-loop-low
decreases-loop-low l = l.high - l.low
