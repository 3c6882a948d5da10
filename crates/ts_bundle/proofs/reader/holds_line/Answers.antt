use Rattle.std.proofs.Common.{codes}
use Rattle.std.proofs.lemmas.Result.{err_from_is_err_and}
use Rattle.ts_bundle.proofs.Growth.{other_line}
use Rattle.ts_bundle.proofs.Refusals.{holds_refused}
use Rattle.ts_bundle.proofs.reader.holds_line.Goals as goal

-- No bundle has the line there.
pub returns-in_err-line-clause-refused : goal.returns-in_err-line-clause-refused
returns-in_err-line-clause-refused c =
    let p = err_from_is_err_and c.from_residual.result c.from_residual.ensures.1 in
    rw (p.1, p.2) (holds_refused c.args.archive c.args.first c.args.second c.args.reader c.args.line.now c.in_err-line.field-0.0 (other_line c.args.line.now c.as_slice.result.now (codes "plan") c.eq.result c.eq.ensures c.as_slice.ensures c.if-eq.false) c.in_err-line.ensures.bad)
