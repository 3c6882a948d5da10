use Rattle.std.proofs.Common.{◌≡◌, length, sum_by, take}
use Rattle.ts_plan.specs.Fitting.{AreActions}
use Rattle.ts_plan.proofs.fitting.actions_fit.Given as goal

abbrev pub invariant-loop-action : goal.invariant-loop-action
invariant-loop-action l = (l.total ≡ sum_by (λ a. length a.preds) (take l.action-index l.actions)) × AreActions (take l.action-index l.actions)
