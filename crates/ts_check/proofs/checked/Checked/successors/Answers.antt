use Rattle.std.proofs.Common.{ℕ, ◌↔◌, Contains, ap, subst}
use Rattle.ts_model.specs.Plans.{Waits}
use Rattle.ts_model.specs.declared.plan.Plan.{Plan}
use Rattle.ts_check.specs.Checkup.{Checkup}
use Rattle.ts_check.proofs.Checking.{successors_found}
use Rattle.ts_check.proofs.checked.Checked.successors.Goals as goal

pub returns-clause-waiting : goal.returns-clause-waiting
returns-clause-waiting c =
    subst (λ (p : Plan). (j : ℕ) → Contains c.list.result.now j ↔ Waits p j c.args.i) (ap (λ (k : Checkup). k.plan) c.self.view_is)
    (successors_found c.self.inside.plan.now c.self.inside.successors c.args.i c.list.result.now c.self.invariant.successors_are c.list.ensures).0
