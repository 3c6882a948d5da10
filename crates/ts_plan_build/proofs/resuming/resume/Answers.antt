use Rattle.std.proofs.lemmas.Result.{err_from_is_err_and}
use Rattle.ts_plan_build.proofs.Ending.{ends_as_begun}
use Rattle.ts_plan_build.proofs.resuming.resume.Goals as goal

pub build-requires : goal.build-requires
build-requires c = (c.in_ok-entries.ensures c.args.holds.now c.in_ok-marks.ensures).ascending

pub returns-in_err-plan-clause-past : goal.returns-in_err-plan-clause-past
returns-in_err-plan-clause-past c =
    let p = err_from_is_err_and c.from_residual-in_err-plan.result c.from_residual-in_err-plan.ensures.1 in
    rw (p.1, p.2) (λ past. (c.in_ok-entries.entries.items, c.in_ok-entries.ensures c.args.holds.now c.in_ok-marks.ensures, c.in_err-plan.ensures.past past))

pub returns-clause-valid : goal.returns-clause-valid
returns-clause-valid c = c.in_ok-plan.ensures.valid c.args.holds.now (c.in_ok-entries.ensures c.args.holds.now c.in_ok-marks.ensures)

pub returns-clause-ends : goal.returns-clause-ends
returns-clause-ends c = ends_as_begun c.resumed_runs_end_alike.ensures _ c.in_ok-plan.plan (c.in_ok-plan.ensures.valid c.args.holds.now (c.in_ok-entries.ensures c.args.holds.now c.in_ok-marks.ensures))

pub returns-clause-fits : goal.returns-clause-fits
returns-clause-fits c = c.in_ok-plan.ensures.fits c.args.holds.now (c.in_ok-entries.ensures c.args.holds.now c.in_ok-marks.ensures)
