use Rattle.std.proofs.Common.{sym, ◌∙◌}
use Rattle.ts_folder.proofs.Children.{in_order_next}
use Rattle.ts_special.proofs.holding.is_in_order.Goals as goal

pub loop-index-preserved : goal.loop-index-preserved
loop-index-preserved c = in_order_next c.args.names.now c.loop-index.index c.index-names-index.result c.index-names-index-in-loop-index.result c.loop-index.auto.index c.loop-index-test.true c.loop-index.invariant (sym c.cmp.ensures ∙ c.in-Less.is)
