use Rattle.std.proofs.lemmas.Result.{err_from_is_err_and}
use Rattle.ts_bundle.proofs.Refusals.{plan_refused}
use Rattle.ts_bundle.proofs.reader.plan_line.Goals as goal

-- No bundle has the line there.
pub returns-in_err-line-clause-refused : goal.returns-in_err-line-clause-refused
returns-in_err-line-clause-refused c =
    let p = err_from_is_err_and c.from_residual.result c.from_residual.ensures.1 in
    rw (p.1, p.2) (plan_refused c.args.archive c.args.first c.args.second c.args.holds c.args.reader c.line.new.self c.args.line.now c.in_err-line.field-0.0 c.in_err-line.ensures.reads)
