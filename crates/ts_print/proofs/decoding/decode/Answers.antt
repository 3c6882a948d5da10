use Rattle.std.proofs.lemmas.Result.{err_from_is_err_and}
use Rattle.ts_tree.proofs.Taken.{taken_more}
use Rattle.ts_print.proofs.NoPrint.{no_print_line, no_print_read}
use Rattle.ts_print.proofs.decoding.decode.Goals as goal

-- The line reader met a fault.
pub returns-in_err-advance-clause-refused : goal.returns-in_err-advance-clause-refused
returns-in_err-advance-clause-refused g c =
    let p = err_from_is_err_and c.from_residual.result c.from_residual.ensures.1 in
    rw (p.1, p.2) (no_print_read c.args.lines.now c.loop.lines c.advance.new.self c.loop.reader c.in_err-advance.field-0.0 c.loop.invariant c.in_err-advance.ensures.answers)

-- No print has the line there.
pub returns-in_err-line-clause-refused : goal.returns-in_err-line-clause-refused
returns-in_err-line-clause-refused g c =
    let p = err_from_is_err_and c.from_residual-in_err-line.result c.from_residual-in_err-line.ensures.1 in
    let gives = rw c.if-not-branch.false at c.in_ok-advance.ensures.answers in
    let taken = taken_more c.args.lines.now c.loop.lines c.advance.new.self c.loop.reader c.loop.invariant gives in
    let refused = rw c.line.ensures at c.in_err-line.ensures.refused in
    rw (p.1, p.2) (no_print_line c.args.lines.now c.advance.new.self _ c.in_err-line.field-0.0 taken refused)
