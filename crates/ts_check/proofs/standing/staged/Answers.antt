use Rattle.std.proofs.Common.{subst}
use Rattle.ts_check.specs.Pieces.{AreInOrder}
use Rattle.ts_check.proofs.Placing.{is_map}
use Rattle.ts_check.proofs.standing.staged.Goals as goal

pub returns-then-are_in_order-clause-staged : goal.returns-then-are_in_order-clause-staged
returns-then-are_in_order-clause-staged g c =
    let order = subst (λ z. AreInOrder z) c.deref.ensures.value (c.are_in_order.ensures c.if-are_in_order.true) in
    (is_map c.args.first.now c.args.second.now c.requires.first c.requires.second c.args.plan.now c.in_ok-staged.staged.items c.requires.lawful order c.in_ok-staged.ensures, order, c.in_ok-staged.ensures.few)
