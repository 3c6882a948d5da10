use Rattle.std.proofs.Common.{sym, ◌∙◌}
use Rattle.ts_name.proofs.Spelling.{cut_at, no_cut}
use Rattle.ts_tree.proofs.field.sized.Goals as goal

-- Without a space there is no size.
pub returns-in_err-size-clause-none : goal.returns-in_err-size-clause-none
returns-in_err-size-clause-none c =
    let whole = rw c.in_err-size.was at c.split_word.ensures.rest in
    rw c.from_residual.ensures (λ path n word small e. no_cut 32 c.split_word.result.0.now path _ c.split_word.ensures.word (sym whole ∙ e))

-- The size is what stands behind the first space.
pub returns-in_err-field_dec-clause-none : goal.returns-in_err-field_dec-clause-none
returns-in_err-field_dec-clause-none c =
    let parts = rw c.in_ok-size.was at c.split_word.ensures.rest in
    rw c.from_residual-in_err-field_dec.ensures
    (λ path n word small e. c.in_err-field_dec.ensures.none n small (cut_at 32 c.split_word.result.0.now path _ _ c.split_word.ensures.word word (sym parts ∙ e)).1)
