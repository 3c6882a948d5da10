use Rattle.std.proofs.Common.{◌∷◌, ◌++◌, codes, decimal, sym, ◌∙◌, arith}
use Rattle.std.proofs.lemmas.Bool.{false≢true}
use Rattle.hex.specs.Hex.{encode_lower}
use Rattle.ts_name.specs.Buffers.{HasNo}
use Rattle.ts_name.proofs.Spelling.{clean_decimal, cut_at, no_cut, no_space}
use Rattle.ts_print.proofs.NextRows.{first_word}
use Rattle.ts_archive.proofs.ending.end_of.Goals as goal

end_word : HasNo 32 (codes "end")
end_word = (λ e. omega arith, (λ e. omega arith, (λ e. omega arith, tt)))

pub returns-then-not-is_end-clause-none : goal.returns-then-not-is_end-clause-none
returns-then-not-is_end-clause-none c =
    λ count digest fits e.
    false≢true (sym c.if-not-is_end.true ∙ c.is_end.ensures.1 (first_word c.split_word.result.1 (λ r. r.now) c.args.line.now c.split_word.result.0.now (codes "end") (decimal count ++ 32 ∷ encode_lower digest)
    c.split_word.ensures.word c.split_word.ensures.rest end_word e))

pub returns-in_err-count-clause-none : goal.returns-in_err-count-clause-none
returns-in_err-count-clause-none c =
    let parts = rw c.in_ok-fields.was at c.split_word.ensures.rest in
    rw c.from_residual-in_err-count.ensures
    (λ count digest fits e.
    let fields = (cut_at 32 c.split_word.result.0.now (codes "end") _ (decimal count ++ 32 ∷ encode_lower digest) c.split_word.ensures.word end_word (sym parts ∙ e)).1 in
    c.in_err-count.ensures.none count fits.0
    (first_word c.split_word-2.result.1 (λ r. r.now) _ c.split_word-2.result.0.now (decimal count) (encode_lower digest) c.split_word-2.ensures.word c.split_word-2.ensures.rest
    (no_space (decimal count) (clean_decimal count fits.0)) fields))

pub returns-in_err-digits-clause-none : goal.returns-in_err-digits-clause-none
returns-in_err-digits-clause-none c =
    let parts = rw c.in_ok-fields.was at c.split_word.ensures.rest in
    let whole = rw c.in_err-digits.was at c.split_word-2.ensures.rest in
    rw c.from_residual-in_err-digits.ensures
    (λ count digest fits e.
    let fields = (cut_at 32 c.split_word.result.0.now (codes "end") _ (decimal count ++ 32 ∷ encode_lower digest) c.split_word.ensures.word end_word (sym parts ∙ e)).1 in
    no_cut 32 c.split_word-2.result.0.now (decimal count) _ c.split_word-2.ensures.word (sym whole ∙ fields))

pub returns-then-not-read_hex-clause-none : goal.returns-then-not-read_hex-clause-none
returns-then-not-read_hex-clause-none c =
    let parts = rw c.in_ok-fields.was at c.split_word.ensures.rest in
    let more = rw c.in_ok-digits.was at c.split_word-2.ensures.rest in
    λ count digest fits e.
    let fields = (cut_at 32 c.split_word.result.0.now (codes "end") _ (decimal count ++ 32 ∷ encode_lower digest) c.split_word.ensures.word end_word (sym parts ∙ e)).1 in
    let digits = (cut_at 32 c.split_word-2.result.0.now (decimal count) _ _ c.split_word-2.ensures.word (no_space (decimal count) (clean_decimal count fits.0)) (sym more ∙ fields)).1 in
    c.read_hex.ensures.none c.if-not-read_hex.true digest fits.1 fits.2 digits
