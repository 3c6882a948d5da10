use Rattle.std.proofs.Common.{codes}
use Rattle.std.proofs.lemmas.Result.{err_from_is_err_and}
use Rattle.ts_bundle.proofs.Growth.{other_line, same_line}
use Rattle.ts_bundle.proofs.Refusals.{first_ended, first_refused}
use Rattle.ts_bundle.proofs.reader.first_line.Goals as goal

-- The tree isn't whole.
pub returns-in_err-first-clause-refused : goal.returns-in_err-first-clause-refused
returns-in_err-first-clause-refused c =
    let p = err_from_is_err_and c.from_residual.result c.from_residual.ensures.1 in
    rw (p.1, p.2) (first_ended c.args.archive c.args.reader c.args.line.now c.in_err-first.field-0.0 c.requires.apart (same_line c.args.line.now c.as_slice.result.now (codes "second") c.eq.result c.eq.ensures c.as_slice.ensures c.if-eq.true) c.in_err-first.ensures.refused)

-- No bundle has the line there.
pub returns-in_err-line-clause-refused : goal.returns-in_err-line-clause-refused
returns-in_err-line-clause-refused c =
    let p = err_from_is_err_and c.from_residual-in_err-line.result c.from_residual-in_err-line.ensures.1 in
    rw (p.1, p.2) (first_refused c.args.archive c.args.reader c.args.line.now c.in_err-line.field-0.0 c.requires.apart (other_line c.args.line.now c.as_slice.result.now (codes "second") c.eq.result c.eq.ensures c.as_slice.ensures c.if-eq.false) c.in_err-line.ensures.refused)
