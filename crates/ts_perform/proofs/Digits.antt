-- How many decimal digits a number has.
use Rattle.std.proofs.Common.{◌≡◌, ◌+◌, ◌/◌, ◌<◌, ◌^◌, ℕ, zero, suc, arith, ap, decimal, length, refl, ◌∙◌}
use Rattle.std.proofs.lemmas.Fmt.{decimal-digits_of, decimal_nonempty, length-decimal-le}
use Rattle.std.proofs.lemmas.Int.Digits.{length-digits_of_step}
use Rattle.std.proofs.lemmas.List.{length-map}
use Rattle.std.specs.Int.Digits.{digits_of}

-- the last one, and those before it
pub digits_split : (n : ℕ) → n < 2 ^ 64 → length (decimal n) ≡ 1 + length (digits_of 10 (n / 10))
digits_split zero small =
    let none : length (digits_of 10 (0 / 10)) ≡ 0 = refl in
    omega (arith, none, decimal_nonempty 0 small, length-decimal-le 1 0 (omega arith) (omega arith) small)
digits_split (suc n) small =
    let all = ap length (decimal-digits_of (suc n) (omega arith) small) ∙ length-map (digits_of 10 (suc n)) (λ d. 48 + d) in
    omega (arith, all, length-digits_of_step 10 (suc n) (omega arith) (omega arith))
