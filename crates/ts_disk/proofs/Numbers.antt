-- The number behind a front of a name.
use Rattle.std.proofs.Common.{◌≡◌, ◌≢◌, true, false, eqb, ℕ, ◌<◌, ◌^◌, List, ◌++◌, length, take, drop, decimal, Option, Some, None, Result, Ok, Err, IfSome, IfNone, sym, ap, ◌∙◌, subst, arith}
use Rattle.std.proofs.lemmas.Fmt.{decimal_injective}
use Rattle.std.proofs.lemmas.List.{append_cancel_left, take-append-drop}
use Rattle.std.proofs.lemmas.Slice.Eq.{bytes_eq-Decides}
use Rattle.std.proofs.Math.Seq.{take-append_seam}
use Rattle.std.specs.Cmp.Lexicographic.{pointwise}
use Rattle.std.specs.Result.{OkIff, result_ok}
use Rattle.ts_disk.specs.Names.{HasNumber}

-- what is left where the front was taken off
pub behind_front : (front name rest : List ℕ) → pointwise eqb (take (length front) name) front ≡ true → rest ≡ drop (length front) name → name ≡ front ++ rest
behind_front front name rest same left =
    sym (take-append-drop (length front) name) ∙ ap (λ x. x ++ drop (length front) name) ((bytes_eq-Decides (take (length front) name) front).0 same)
    ∙ ap (λ x. front ++ x) (sym left)

-- a name that begins otherwise isn't the front and something
pub other_front : (front name rest : List ℕ) → pointwise eqb (take (length front) name) front ≡ false → name ≢ front ++ rest
other_front front name rest differs e =
    let same = (bytes_eq-Decides (take (length front) name) front).1 (ap (take (length front)) e ∙ take-append_seam front rest) in cc

-- the digits behind the front spell n, which fits or doesn't
pub numbered :
    {E : Type 0} (front name digits : List ℕ) (n : ℕ) (r : Result ℕ E) (found : Option ℕ) → name ≡ front ++ digits → digits ≡ decimal n
    → OkIff r (n < 2 ^ 32) n → found ≡ result_ok r → IfSome found (HasNumber front name)
numbered front name digits n (Ok m) found whole spelled fits is =
    rw is (whole ∙ ap (λ d. front ++ d) (spelled ∙ ap decimal (sym fits.1)))
numbered front name digits n (Err e) found whole spelled fits is = rw is tt

pub unnumbered :
    {E : Type 0} (front name digits : List ℕ) (n : ℕ) (r : Result ℕ E) (found : Option ℕ) → n < 2 ^ 64 → name ≡ front ++ digits → digits ≡ decimal n
    → OkIff r (n < 2 ^ 32) n → found ≡ result_ok r → IfNone found ((m : ℕ) → m < 2 ^ 32 → ¬ HasNumber front name m)
unnumbered front name digits n (Ok m) found range whole spelled fits is = rw is tt
unnumbered front name digits n (Err e) found range whole spelled fits is =
    rw is (λ m small said.
    let same = decimal_injective n m range (omega arith) (sym spelled ∙ append_cancel_left front digits (decimal m) (sym whole ∙ said)) in
    fits (subst (λ k. k < 2 ^ 32) (sym same) small))

pub none_of : (found : Option ℕ) {P : Type 0} → P → IfNone found P
none_of None p = p
none_of (Some n) p = tt
