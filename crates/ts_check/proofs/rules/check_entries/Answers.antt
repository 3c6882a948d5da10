use Rattle.std.proofs.Common.{refl}
use Rattle.ts_model.specs.declared.plan.PlanRule.TheVariants.{PredsAscend}
use Rattle.ts_need.specs.Needs.{snapshot_of}
use Rattle.ts_check.proofs.Verdicts.{hold_more}
use Rattle.ts_check.proofs.rules.check_entries.Goals as goal

pub returns-in_ok-looked-in-Ok-clause-holds : goal.returns-in_ok-looked-in-Ok-clause-holds
returns-in_ok-looked-in-Ok-clause-holds g c =
    let s = snapshot_of c.args.state.now in
    let told = rw c.in-Ok.is at c.join-reasons.ensures.first in
    hold_more s c.args.plan.now 5 PredsAscend refl told.0 c.in_default.ensures

pub returns-then-as_slice-lt-MANY_ACTIONS-clause-holds : goal.returns-then-as_slice-lt-MANY_ACTIONS-clause-holds
returns-then-as_slice-lt-MANY_ACTIONS-clause-holds g c =
    let s = snapshot_of c.args.state.now in
    hold_more s c.args.plan.now 5 PredsAscend refl c.in_ok-check_reasons-2.ensures.holds c.in_default.ensures
