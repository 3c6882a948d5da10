-- The longest front of a text that is UTF-8 and short.
use Rattle.std.proofs.Common.{◌≡◌, ℕ, ◌-◌, ◌<◌, ◌≤◌, ◌⊎◌, List, [], IsUtf8, MatchResult, Result, Ok, Err, false, true, arith, drop, inl, inr, is_ok, length, refl, subst, sym, take}
use Rattle.std.proofs.lemmas.Bool.{cases_lt}
use Rattle.std.proofs.lemmas.List.{length-take-le, take-append-drop}
use Rattle.ts_special.specs.StandIns.{IsCut}

-- no longer front will do
abbrev pub IsLongest : List ℕ → ℕ → Type 0
IsLongest text end = (n : ℕ) → end < n → n ≤ 255 → n ≤ length text → ¬ IsUtf8 (take n text)

-- one byte less
pub one_less : (text : List ℕ) (end : ℕ) → 0 < end → ¬ IsUtf8 (take end text) → IsLongest text end → IsLongest text (end - 1)
one_less text end some here longest n later few within utf8 = go (cases_lt end n)
  where
    go : (end < n) ⊎ (n ≤ end) → ⊥
    go (inl more) = longest n more few within utf8
    go (inr no_more) = let same : n ≡ end = omega (arith, some, later, no_more) in here (subst (λ m. IsUtf8 (take m text)) same utf8)

-- text that isn't UTF-8 wasn't read as such
pub not_read : {A B : Type 0} (r : Result A B) (P : A → Type 0) (Q : B → Type 0) (X : Type 0) → is_ok r ≡ false → MatchResult r P (λ e. (¬ X) × Q e) → ¬ X
not_read (Ok a) P Q X failed is = cc
not_read (Err b) P Q X failed is = is.0

-- and what is was
pub was_read : {A B : Type 0} (r : Result A B) (P : A → Type 0) (Q : B → Type 0) (X : Type 0) → is_ok r ≡ true → MatchResult r (λ a. P a × X) Q → X
was_read (Ok a) P Q X read is = is.1
was_read (Err b) P Q X read is = cc

-- nothing is UTF-8
pub none_is_utf8 : (text : List ℕ) (end : ℕ) → end ≤ 0 → IsUtf8 (take end text)
none_is_utf8 text end none = let zero : end ≡ 0 = omega (arith, none) in subst (λ m. IsUtf8 (take m text)) (sym zero) ([], (refl, refl))

-- what was found is the cut
pub cut_at : (text : List ℕ) (end : ℕ) → end ≤ 255 → end ≤ length text → IsLongest text end → IsUtf8 (take end text) → IsCut text (take end text)
cut_at text end few within longest utf8 =
    let size : length (take end text) ≡ end = length-take-le end text within in
    record {
      rest = drop end text;
      split = sym (take-append-drop end text);
      utf8 = utf8;
      short = omega (arith, size, few);
      longest = λ n later. longest n (omega (arith, size, later));
    }
