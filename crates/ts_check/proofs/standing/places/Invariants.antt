use Rattle.std.proofs.Common.{◌-◌, ◌≤◌}
use Rattle.ts_check.specs.Pieces.{ArePlacesBetween}
use Rattle.ts_check.proofs.standing.places.Given as goal

abbrev pub invariant-loop-from : goal.invariant-loop-from
invariant-loop-from g l = record {
  found : ArePlacesBetween l.first l.second l.plan 0 l.from l.staged.items;
  within : l.from ≤ l.count;
}

abbrev pub decreases-loop-from : goal.decreases-loop-from
decreases-loop-from g l = l.count - l.from
