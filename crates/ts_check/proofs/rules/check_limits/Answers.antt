use Rattle.std.proofs.Common.{refl}
use Rattle.ts_model.specs.declared.plan.PlanRule.TheVariants.{Limits, EntriesAscend}
use Rattle.ts_need.specs.Needs.{snapshot_of}
use Rattle.ts_check.proofs.Verdicts.{hold_none, hold_more, broken_here}
use Rattle.ts_check.proofs.rules.check_limits.Goals as goal

pub returns-in-Some-clause-told : goal.returns-in-Some-clause-told
returns-in-Some-clause-told g c =
    let s = snapshot_of c.args._state.now in
    rw c.broken.ensures (broken_here s c.args.plan.now Limits c.in-Some.place (hold_none s c.args.plan.now) (c.in-Some.ensures s))

pub returns-in-Some-first_out_of_order-clause-told : goal.returns-in-Some-first_out_of_order-clause-told
returns-in-Some-first_out_of_order-clause-told g c =
    let s = snapshot_of c.args._state.now in
    let plan = c.args.plan.now in
    rw c.broken-in-Some-first_out_of_order.ensures (broken_here s plan EntriesAscend c.in-Some-first_out_of_order.place (hold_more s plan 1 Limits refl (hold_none s plan) (c.in_default.ensures s)) (rw c.as_slice.ensures at c.in-Some-first_out_of_order.ensures))

pub returns-in-None-clause-holds : goal.returns-in-None-clause-holds
returns-in-None-clause-holds g c =
    let s = snapshot_of c.args._state.now in
    let plan = c.args.plan.now in
    hold_more s plan 2 EntriesAscend refl (hold_more s plan 1 Limits refl (hold_none s plan) (c.in_default.ensures s)) (rw c.as_slice.ensures at c.in-None.ensures)
