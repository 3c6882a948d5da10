use Rattle.std.proofs.Common.{◌∷◌, ◌++◌, [], subst}
use Rattle.std.proofs.lemmas.Result.{err_from_is_err_and}
use Rattle.ts_print.specs.Fields.{IsNoRow}
use Rattle.ts_print.specs.Readers.{BeginsNoPrint}
use Rattle.ts_print.proofs.NextRows.{no_room, no_row_next, refuses_weaker}
use Rattle.ts_print.proofs.reader.PrintReader.with_line.Goals as goal

-- A line that spells no row comes next in no print.
pub returns-in_err-row-clause-refused : goal.returns-in_err-row-clause-refused
returns-in_err-row-clause-refused c =
    let p = err_from_is_err_and c.from_residual.result c.from_residual.ensures.1 in
    rw (p.1, p.2) (refuses_weaker (IsNoRow c.args.line.now) (BeginsNoPrint (c.args.self ++ c.args.line.now ∷ [])) c.in_err-row.field-0.0
    (λ none. subst (λ z. BeginsNoPrint (z ++ c.args.line.now ∷ [])) c.self.view_is (no_row_next c.self.inside.print c.args.line.now c.self.invariant none)) c.in_err-row.ensures.refused)

-- Nor does one whose path may not.
pub returns-then-not-can_push-clause-refused : goal.returns-then-not-can_push-clause-refused
returns-then-not-can_push-clause-refused c =
    let row = c.in_ok-row.row in
    subst (λ z. BeginsNoPrint (z ++ c.args.line.now ∷ [])) c.self.view_is
    (no_room c.self.inside.print c.args.line.now row.path row.content c.self.invariant c.in_ok-row.ensures.found.0 c.in_ok-row.ensures.found.1 (c.can_push.ensures.no c.if-not-can_push.true))
