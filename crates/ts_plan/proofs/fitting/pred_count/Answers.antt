use Rattle.std.proofs.Common.{◌<◌, ◌^◌}
use Rattle.ts_plan.proofs.EachFits.{at_each_place}
use Rattle.ts_plan.proofs.fitting.pred_count.Goals as goal

pub returns-clause-short : goal.returns-clause-short
returns-clause-short c = at_each_place (λ j. j < 2 ^ 32) c.args.preds.now (λ i. (c.type_inv.preds i).fits)
