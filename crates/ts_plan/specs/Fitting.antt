-- What the actions of a plan need so that it has a text.
use Rattle.std.specs.Prelude.{◌^◌, ◌<◌, ◌≤◌, List, length, sum_by}
use Rattle.std.specs.List.{AllByRecursion}
use Rattle.ts_model.specs.Plans.{pred_limit}
use Rattle.ts_model.specs.Texts.{KindFits}
use Rattle.ts_model.specs.declared.plan.Action.{Action}

-- each fits, and they have no more predecessors than the limit, all together
pub record AreActions (actions : List Action) : Type 0 where
  pub few : sum_by (λ a. length a.preds) actions ≤ pred_limit
  pub kinds : AllByRecursion (λ a. KindFits a.kind) actions
  pub preds : AllByRecursion (λ a. AllByRecursion (λ j. j < 2 ^ 32) a.preds) actions
