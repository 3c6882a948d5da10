use Rattle.std.proofs.Common.{codes}
use Rattle.std.proofs.lemmas.Result.{err_from_is_err_and}
use Rattle.ts_bundle.proofs.Growth.{other_line, same_line}
use Rattle.ts_bundle.proofs.Refusals.{second_ended, second_refused}
use Rattle.ts_bundle.proofs.reader.second_line.Goals as goal

-- The tree isn't whole.
pub returns-in_err-second-clause-refused : goal.returns-in_err-second-clause-refused
returns-in_err-second-clause-refused c =
    let p = err_from_is_err_and c.from_residual.result c.from_residual.ensures.1 in
    rw (p.1, p.2) (second_ended c.args.archive c.args.first c.args.reader c.args.line.now c.in_err-second.field-0.0 c.requires.apart (same_line c.args.line.now c.as_slice.result.now (codes "holds") c.eq.result c.eq.ensures c.as_slice.ensures c.if-eq.true) c.in_err-second.ensures.refused)

-- No bundle has the line there.
pub returns-in_err-line-clause-refused : goal.returns-in_err-line-clause-refused
returns-in_err-line-clause-refused c =
    let p = err_from_is_err_and c.from_residual-in_err-line.result c.from_residual-in_err-line.ensures.1 in
    rw (p.1, p.2) (second_refused c.args.archive c.args.first c.args.reader c.args.line.now c.in_err-line.field-0.0 c.requires.apart (other_line c.args.line.now c.as_slice.result.now (codes "holds") c.eq.result c.eq.ensures c.as_slice.ensures c.if-eq.false) c.in_err-line.ensures.refused)
