use Rattle.std.proofs.Common.{◌∙◌, sym, arith}
use Rattle.ts_check.proofs.InOrder.{in_order_more, in_order_all, is_less}
use Rattle.ts_check.proofs.standing.are_in_order.Goals as goal

pub loop-k-preserved : goal.loop-k-preserved
loop-k-preserved c = in_order_more c.args.staged.now c.loop-k.k c.loop-k.invariant (sym c.cmp.ensures ∙ is_less c.cmp.result c.if-ne.ensures)

pub returns : goal.returns
returns c = λ yes. in_order_all c.args.staged.now c.loop-k.k (let g = c.loop-k-test.false in omega arith) c.loop-k.invariant
