use Rattle.std.proofs.Common.{ap, sym, subst}
use Rattle.std.proofs.lemmas.Bool.{false≢true}
use Rattle.ts_model.specs.declared.plan.Plan.{Plan}
use Rattle.ts_check.specs.Checkup.{Checkup, IsCommit}
use Rattle.ts_check.proofs.checked.Checked.is_commit.Goals as goal

pub returns-in-None : goal.returns-in-None
returns-in-None c = (
  λ h. absurd (false≢true h),
  λ commit. let h = subst (λ (p : Plan). IsCommit p c.args.c) (sym (ap (λ (k : Checkup). k.plan) c.self.view_is)) commit in absurd (c.in-None.ensures.none h.0 h.1),
)
