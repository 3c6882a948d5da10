use Rattle.std.proofs.Common.{sym, ap, ◌∙◌}
use Rattle.std.specs.Result.{is_err}
use Rattle.std.proofs.lemmas.Bool.{false≢true}
use Rattle.std.proofs.lemmas.Bool.Decides.{Decides-eqb}
use Rattle.std.proofs.lemmas.Slice.Eq.{slice_eq-Decides}
use Rattle.hex.specs.Hex.{encode_lower}
use Rattle.ts_text.proofs.Numbers.{digest_decoded}
use Rattle.ts_text.proofs.field.field_digest.Goals as goal

pub returns-then-is_err-clause-none : goal.returns-then-is_err-clause-none
returns-then-is_err-clause-none c d size bytes same =
    let decoded = rw (digest_decoded c.args.field.now d size bytes same) at c.decode_to_slice.ensures.value in
    false≢true (ap is_err (sym decoded.0) ∙ sym c.is_err.ensures.value ∙ c.if-is_err.true)

pub returns-else-eq-clause-none : goal.returns-else-eq-clause-none
returns-else-eq-clause-none c d size bytes same =
    let decoded = rw (digest_decoded c.args.field.now d size bytes same) at c.decode_to_slice.ensures.value in
    let again = same ∙ ap encode_lower (sym decoded.1) ∙ sym c.lower_hex-text.ensures ∙ sym c.as_slice.ensures in
    false≢true (sym c.if-eq.false ∙ (slice_eq-Decides Decides-eqb _ _ _ c.eq.ensures).1 again)
