use Rattle.std.proofs.Common.{length, sym, ap, ◌∙◌}
use Rattle.std.specs.Result.{is_err}
use Rattle.std.proofs.lemmas.Bool.{false≢true}
use Rattle.std.proofs.lemmas.Bool.Decides.{Decides-eqb}
use Rattle.std.proofs.lemmas.Slice.Eq.{slice_eq-Decides}
use Rattle.hex.specs.Hex.{encode_lower}
use Rattle.ts_tree.proofs.Fields.{decoded_bytes, hex_decoded}
use Rattle.ts_tree.proofs.data.read_hex.Goals as goal

-- What bytes are spelled by decodes to them.
pub returns-then-is_err-clause-none : goal.returns-then-is_err-clause-none
returns-then-is_err-clause-none c _ bytes is size same =
    let decoded = rw (hex_decoded c.args.digits.now bytes (length c.args.data.now) is size same) at c.decode_to_slice.ensures.value in
    false≢true (ap is_err (sym decoded.0) ∙ sym c.is_err.ensures.value ∙ c.if-is_err.true)

pub returns-clause-lawful : goal.returns-clause-lawful
returns-clause-lawful c =
    decoded_bytes c.args.digits.now _ (length c.args.data.now) c.decode_to_slice.result c.decode_to_slice.ensures.value (sym c.is_err.ensures.value ∙ c.if-is_err.false)

pub returns-clause-none : goal.returns-clause-none
returns-clause-none c wrong bytes is size same =
    let decoded = rw (hex_decoded c.args.digits.now bytes (length c.args.data.now) is size same) at c.decode_to_slice.ensures.value in
    let again = same ∙ ap encode_lower (sym decoded.1) ∙ sym c.write_hex.ensures in
    false≢true (sym wrong ∙ (slice_eq-Decides Decides-eqb _ _ _ c.eq.ensures).1 again)
