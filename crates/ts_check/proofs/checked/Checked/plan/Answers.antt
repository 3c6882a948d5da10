use Rattle.std.proofs.Common.{subst}
use Rattle.ts_model.specs.Plans.{Valid}
use Rattle.ts_check.specs.Checkup.{Checkup, snapshot_of}
use Rattle.ts_check.proofs.checked.Checked.plan.Goals as goal

pub returns-clause-valid : goal.returns-clause-valid
returns-clause-valid c = subst (λ (k : Checkup). Valid (snapshot_of k) k.plan) c.self.view_is c.self.invariant.valid
