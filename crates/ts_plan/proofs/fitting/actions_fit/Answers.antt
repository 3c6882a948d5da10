use Rattle.std.proofs.Common.{ap, subst, ◌<◌, length, ◌∙◌}
use Rattle.std.specs.List.{AllByRecursion}
use Rattle.ts_plan.proofs.EachFits.{one_more}
use Rattle.ts_plan.proofs.fitting.actions_fit.Goals as goal

pub loop-action-preserved : goal.loop-action-preserved
loop-action-preserved c =
    let item = c.action-item.result in
    let counted = c.pred_count-count.ensures.count ∙ ap length c.preds.ensures in
    let short = subst (AllByRecursion (λ j. j < 4294967296)) c.preds.ensures c.pred_count-count.ensures.short in
    one_more c.args.actions.now c.loop-action.action-index c.loop-action.total c.pred_count-count.result item c.loop-action-test.true c.action-item.is
    c.loop-action.invariant counted c.if-count-total.false (c.kind_fits.ensures.0 c.if-not-kind_fits.false) short
