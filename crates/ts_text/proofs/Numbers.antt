-- Numbers and digests, and the fields that spell them.
use Rattle.std.proofs.Common.{◌≡◌, ◌≢◌, ℕ, zero, suc, ◌^◌, ◌<◌, List, [], ◌∷◌, ◌*◌, length, get_or, Option, Some, None, Result, Ok, Err, MatchOption, IfNone, IfSome, decimal, sym, ap, ◌∙◌, subst, inl, inr, arith}
use Rattle.std.specs.Result.{result_ok}
use Rattle.std.specs.Str.Parse.{AllDigits, digits_value, ParsesUnsigned}
use Rattle.std.proofs.lemmas.Bool.{cases_lt}
use Rattle.std.proofs.lemmas.Fmt.{decimal_is_IsNumeral, decimal-digits_value, decimal_digit, first_decimal, IsAscii-decimal}
use Rattle.std.proofs.lemmas.Str.Parse.{IsNumeralModel, numerals_by_value, tells_digits, digit_at, parse_plain}
use Rattle.std.proofs.lemmas.Str.{IsUtf8-from_ascii}
use Rattle.std.specs.Prelude.{IsUtf8}
use Rattle.std.specs.List.{AllByRecursion}
use Rattle.hex.specs.Hex.{encode_lower, lower_digits, decode_of, decode_sized}
use Rattle.hex.proofs.HexLemmas.{decode_sized-twice, decode_of-encode_lower, length-encode_with}
use Rattle.ts_text.specs.Fields.{IsPlain}

own : IsNumeralModel (AllDigits 10) (digits_value 10)
own = numerals_by_value (AllDigits 10) tells_digits

-- the field spells no number
abbrev pub NoNumber : List ℕ → Type 0
NoNumber field = (n : ℕ) → n < 2 ^ 64 → field ≢ decimal n

-- what is parsed is the number, where no sign and no needless zero stands first
pub parsed : {E : Type 0} (field : List ℕ) (r : Result ℕ E) → ParsesUnsigned 64 10 field r → IsPlain field → MatchOption (result_ok r) (NoNumber field) (λ n. field ≡ decimal n)
parsed {E = E} field (Ok n) parses plain =
    let is = parse_plain own {E = E} 64 field (Ok n) parses plain.unsigned in
    sym (decimal-digits_value own field is.0.0 is.0.1 plain.unpadded is.0.2) ∙ ap decimal (sym is.1)
parsed {E = E} field (Err e) parses plain = λ n small same.
    let isnt = parse_plain own {E = E} 64 field (Err e) parses plain.unsigned in
    let numeral = decimal_is_IsNumeral n small in
    isnt (subst (λ l. AllDigits 10 l) (sym same) numeral.0.1, subst (λ l. 0 < length l) (sym same) numeral.0.0, subst (λ l. digits_value 10 l < 2 ^ 64) (sym same) (subst (λ m. m < 2 ^ 64) (sym numeral.1) small))

-- the same of text that is the field's bytes, and of an option
pub parsed_text : {E : Type 0} (field text : List ℕ) (r : Result ℕ E) (o : Option ℕ) → text ≡ field → o ≡ result_ok r → ParsesUnsigned 64 10 text r → IsPlain field
    → IfNone o (NoNumber field) × IfSome o (λ n. field ≡ decimal n)
parsed_text {E = E} field text r o same is parses plain =
    let all = parsed {E = E} field r (subst (λ l. ParsesUnsigned {E = E} 64 10 l r) same parses) plain in
    parts o (subst (λ x. MatchOption x (NoNumber field) (λ n. field ≡ decimal n)) (sym is) all)
  where
    parts : (x : Option ℕ) → MatchOption x (NoNumber field) (λ n. field ≡ decimal n) → IfNone x (NoNumber field) × IfSome x (λ n. field ≡ decimal n)
    parts None h = (h, tt)
    parts (Some n) h = (tt, h)

-- a number's text has no sign and no needless zero
decimal_is_plain : (n : ℕ) → n < 2 ^ 64 → IsPlain (decimal n)
decimal_is_plain n small =
    let numeral = (decimal_is_IsNumeral n small).0 in
    let digit = digit_at (decimal n) 0 numeral.1 numeral.0 in
    record {
      unsigned = λ e. omega (arith, digit.0, e);
      unpadded = λ e. elim (cases_lt 0 n) [
        | inl some ↦ absurd (omega (arith, first_decimal n some small, e))
        | inr none ↦ let is : n ≡ 0 = omega arith in ap length (ap decimal is ∙ decimal_digit 0 (omega arith))
      ];
    }

-- so a field with one spells none
pub not_plain : (field : List ℕ) → ¬ IsPlain field → NoNumber field
not_plain field bad n small same = bad (subst (λ l. IsPlain l) (sym same) (decimal_is_plain n small))

-- nor does one that isn't UTF-8
pub not_utf8 : (field : List ℕ) → ¬ IsUtf8 field → NoNumber field
not_utf8 field bad n small same = bad (subst (λ l. IsUtf8 l) (sym same) (IsUtf8-from_ascii (decimal n) (IsAscii-decimal n small)))

-- ---- digests

byte_at : (bytes : List ℕ) → AllByRecursion (λ b. b < 256) bytes → (i : ℕ) → get_or bytes i 0 < 256
byte_at [] all i = omega arith
byte_at (b ∷ bytes) all zero = all.0
byte_at (b ∷ bytes) all (suc i) = byte_at bytes all.1 i

-- the text of a digest is decoded to it
pub digest_decoded : (field digest : List ℕ) → length digest ≡ 32 → AllByRecursion (λ b. b < 256) digest → field ≡ encode_lower digest → decode_sized field 32 ≡ Ok digest
digest_decoded field digest size bytes same =
    decode_sized-twice field 32 (ap length same ∙ length-encode_with lower_digits digest ∙ ap (λ n. 2 * n) size) ∙ ap decode_of same ∙ decode_of-encode_lower digest (byte_at digest bytes)
