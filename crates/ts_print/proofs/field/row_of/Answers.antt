use Rattle.std.proofs.Common.{sym, ap, ◌∙◌, ◌∷◌, subst}
use Rattle.std.proofs.lemmas.Result.{err_from_is_err_and}
use Rattle.ts_tree.specs.Fields.{SpellsNoPath}
use Rattle.ts_print.specs.Fields.{IsNoRow}
use Rattle.ts_print.proofs.NextRows.{no_file_line, no_file_path, refuses_tree}
use Rattle.ts_print.proofs.field.row_of.Goals as goal

pub returns-in_default-stamped-clause-refused : goal.returns-in_default-stamped-clause-refused
returns-in_default-stamped-clause-refused c =
    subst (λ z. IsNoRow z) (sym c.in-Some-after.ensures.found) (no_file_line _ c.in_default-stamped.ensures.none)

pub returns-in_err-field_path-2-clause-refused : goal.returns-in_err-field_path-2-clause-refused
returns-in_err-field_path-2-clause-refused c =
    let p = err_from_is_err_and c.from_residual-in_err-field_path-2.result c.from_residual-in_err-field_path-2.ensures.1 in
    let line = c.in-Some-after.ensures.found ∙ ap (λ z. 102 ∷ 32 ∷ z) c.in-Some-stamped.ensures.found.2 in
    rw (p.1, p.2) (refuses_tree (SpellsNoPath c.in-Some-stamped.path.now) (IsNoRow c.args.line.now) c.in_err-field_path-2.field-0.0
    (λ none. subst (λ z. IsNoRow z) (sym line) (no_file_path _ _ c.in-Some-stamped.ensures.found.0 none)) c.in_err-field_path-2.ensures.refused)
