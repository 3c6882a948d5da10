use Rattle.ts_check.proofs.Placing.{IsPlaced}
use Rattle.ts_check.proofs.standing.by_map.Given as goal

abbrev pub invariant-loop-i : goal.invariant-loop-i
invariant-loop-i l = IsPlaced l.first l.second l.plan l.i l.map
