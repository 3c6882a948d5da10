use Rattle.std.proofs.Common.{◌≡◌, ◌≤◌, length, sum_by, take}
use Rattle.ts_model.specs.Plans.{pred_limit}
use Rattle.ts_check.proofs.limits.has_few_preds.Given as goal

abbrev pub invariant-loop-action : goal.invariant-loop-action
invariant-loop-action l = (l.total ≡ sum_by (λ a. length a.preds) (take l.action-index l.actions)) × (l.total ≤ pred_limit)
