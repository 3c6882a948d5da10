use Rattle.std.proofs.lemmas.Result.{err_from_is_err_and}
use Rattle.ts_bundle.proofs.Refusals.{plan_ended_at, unfinished_at}
use Rattle.ts_bundle.proofs.reader.BundleReader.finish.Goals as goal

-- The plan isn't whole.
pub returns-in_err-plan-in-Plan-clause-refused : goal.returns-in_err-plan-in-Plan-clause-refused
returns-in_err-plan-in-Plan-clause-refused c =
    let p = err_from_is_err_and c.from_residual.result c.from_residual.ensures.1 in
    rw (p.1, p.2) (plan_ended_at c.self.inside.part c.args.self c.in-Plan.archive c.in-Plan.first c.in-Plan.second c.in-Plan.holds c.in-Plan.reader c.in_err-plan-in-Plan.field-0.0 c.self.view_is c.in-Plan.is c.in_err-plan-in-Plan.ensures)

-- The plan's title is still to come.
pub returns : goal.returns
returns c = record { found = tt; refused = unfinished_at c.self.inside.part c.args.self c.self.view_is c.self.invariant c.in_default.not-Plan }
