use Rattle.ts_check.proofs.InOrder.{AreInOrderBelow}
use Rattle.ts_check.proofs.standing.are_in_order.Given as goal

abbrev pub invariant-loop-k : goal.invariant-loop-k
invariant-loop-k l = AreInOrderBelow l.staged l.k
