use Rattle.std.proofs.Common.{subst, ap, ◌∙◌}
use Rattle.ts_plan.specs.Reading.{IsProgress}
use Rattle.ts_plan.proofs.Turns.{not_ended}
use Rattle.ts_plan.proofs.text.PlanReader.finish.Goals as goal

pub returns-in_default : goal.returns-in_default
returns-in_default c =
    not_ended c.args.self (subst (λ p. IsProgress p) c.self.view_is c.self.invariant.0) (λ e. c.in_default.not-Ended (ap (λ p. p.part) c.self.view_is ∙ e))
