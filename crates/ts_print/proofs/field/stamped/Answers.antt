use Rattle.std.proofs.Common.{sym, ◌∙◌, decimal}
use Rattle.hex.specs.Hex.{encode_lower}
use Rattle.ts_name.proofs.Spelling.{clean_decimal, cut_at, no_cut, no_space}
use Rattle.ts_print.proofs.NextRows.{first_word}
use Rattle.ts_print.proofs.field.stamped.Goals as goal

-- Without a space there is no stamp.
pub returns-in_err-stamp-clause-none : goal.returns-in_err-stamp-clause-none
returns-in_err-stamp-clause-none c =
    let whole = rw c.in_err-stamp.was at c.split_word.ensures.rest in
    rw c.from_residual.ensures (λ path stamp word fits e. no_cut 32 c.split_word.result.0.now path _ c.split_word.ensures.word (sym whole ∙ e))

-- The size is the second word.
pub returns-in_err-size-clause-none : goal.returns-in_err-size-clause-none
returns-in_err-size-clause-none c =
    let parts = rw c.in_ok-stamp.was at c.split_word.ensures.rest in
    rw c.from_residual-in_err-size.ensures
    (λ path stamp word fits e.
    let rest = (cut_at 32 c.split_word.result.0.now path _ _ c.split_word.ensures.word word (sym parts ∙ e)).1 in
    c.in_err-size.ensures.none stamp.size fits.0
    (first_word c.split_word-2.result.1 (λ r. r.now) _ c.split_word-2.result.0.now (decimal stamp.size) (encode_lower stamp.digest) c.split_word-2.ensures.word c.split_word-2.ensures.rest
    (no_space (decimal stamp.size) (clean_decimal stamp.size fits.0)) rest))

-- Behind it stands the digest.
pub returns-in_err-digits-clause-none : goal.returns-in_err-digits-clause-none
returns-in_err-digits-clause-none c =
    let parts = rw c.in_ok-stamp.was at c.split_word.ensures.rest in
    let whole = rw c.in_err-digits.was at c.split_word-2.ensures.rest in
    rw c.from_residual-in_err-digits.ensures
    (λ path stamp word fits e.
    let rest = (cut_at 32 c.split_word.result.0.now path _ _ c.split_word.ensures.word word (sym parts ∙ e)).1 in
    no_cut 32 c.split_word-2.result.0.now (decimal stamp.size) _ c.split_word-2.ensures.word (sym whole ∙ rest))

pub returns-then-not-read_hex-clause-none : goal.returns-then-not-read_hex-clause-none
returns-then-not-read_hex-clause-none c =
    let parts = rw c.in_ok-stamp.was at c.split_word.ensures.rest in
    let more = rw c.in_ok-digits.was at c.split_word-2.ensures.rest in
    λ path stamp word fits e.
    let rest = (cut_at 32 c.split_word.result.0.now path _ _ c.split_word.ensures.word word (sym parts ∙ e)).1 in
    let digits = (cut_at 32 c.split_word-2.result.0.now (decimal stamp.size) _ _ c.split_word-2.ensures.word (no_space (decimal stamp.size) (clean_decimal stamp.size fits.0)) (sym more ∙ rest)).1 in
    c.read_hex.ensures.none c.if-not-read_hex.true stamp.digest fits.1 fits.2 digits
