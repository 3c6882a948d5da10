use Rattle.std.proofs.Common.{sym, ap, ◌∙◌, ◌∷◌}
use Rattle.std.proofs.lemmas.Result.{err_from_is_err_and}
use Rattle.ts_tree.specs.Fields.{IsNoHead, SpellsNoPath}
use Rattle.ts_tree.proofs.Fields.{no_file_line, no_file_path}
use Rattle.ts_tree.proofs.Refusals.{refuses_weaker}
use Rattle.ts_tree.proofs.field.head_of.Goals as goal

-- A file's line has a size.
pub returns-in_default-sized-clause-refused : goal.returns-in_default-sized-clause-refused
returns-in_default-sized-clause-refused c =
    λ p h named fits e. no_file_line _ c.in_default-sized.ensures.none p h named fits (sym c.in-Some-after.ensures.found ∙ e)

-- And its path is spelled before the size.
pub returns-in_err-field_path-2-clause-refused : goal.returns-in_err-field_path-2-clause-refused
returns-in_err-field_path-2-clause-refused c =
    let p = err_from_is_err_and c.from_residual-in_err-field_path-2.result c.from_residual-in_err-field_path-2.ensures.1 in
    rw (p.1, p.2) (refuses_weaker (SpellsNoPath c.in-Some-sized.path.now) (IsNoHead c.args.line.now) c.in_err-field_path-2.field-0.0
    (λ none q h named fits e. no_file_path _ _ c.in-Some-sized.ensures.found.0 none q h named fits (sym (c.in-Some-after.ensures.found ∙ ap (λ z. 102 ∷ 32 ∷ z) c.in-Some-sized.ensures.found.1) ∙ e))
    c.in_err-field_path-2.ensures.refused)
