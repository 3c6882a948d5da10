-- What is gathered from the elements of a list, one after the other.
use Rattle.std.proofs.Common.{◌≡◌, ◌⊎◌, String, Global, ℕ, ◌+◌, ◌<◌, ◌^◌, List, [], ◌∷◌, ◌++◌, length, get_or, take, refl, sym, ap, subst, ◌∙◌, arith, inl, inr}
use Rattle.std.specs.Prelude.{All, Any, Contains, IsPermutation, codes, decimal}
use Rattle.std.specs.List.{dedup}
use Rattle.std.specs.String.{string_bytes, string_eq, string_eq_equiv}
use Rattle.std.proofs.lemmas.Fmt.{decimal_injective}
use Rattle.std.proofs.lemmas.List.{append_cancel_left}
use Rattle.std.proofs.lemmas.List.Elements.{All-more, All-push, Contains-append_left, Contains-append_right}
use Rattle.std.proofs.lemmas.List.Kept.{Any-dedup}
use Rattle.std.proofs.lemmas.List.Sorted.{Contains-permutation}
use Rattle.std.proofs.lemmas.Slice.Eq.{bytes_eq-Decides}
use Rattle.ts_disk.specs.Names.{IsSpotOf}

-- what held of the first elements still holds, and holds of the next
pub kept_more : {A : Type 0} (P Q : A → Type 0) (xs : List A) (i : ℕ) (x : A) → i < length xs → x ≡ get_or xs i x → ((y : A) → P y → Q y) → All P (take i xs) → Q x → All Q (take (i + 1) xs)
kept_more P Q xs i x small is keeps held here = All-more Q xs i x small (λ k d l. keeps _ (held k d l)) (subst Q is here)

-- what was gathered is of some element, and so is what comes from this one
pub from_more :
    {A B : Type 0} (R : A → B → Type 0) (xs : List A) (i : ℕ) (x : A) (old new : List B) (y : B) → i < length xs → x ≡ get_or xs i x → new ≡ old ++ y ∷ [] → R x y
    → All (λ z. Any (λ a. R a z) xs) old → All (λ z. Any (λ a. R a z) xs) new
from_more R xs i x old new y small is grown of held =
    subst (All (λ z. Any (λ a. R a z) xs)) (sym grown) (All-push (λ z. Any (λ a. R a z) xs) old y held (i, x, small, sym is, of))

-- a name is that of one entry's spot at most
pub one_spot : (name : List ℕ) (n m : ℕ) → n < 2 ^ 64 → m < 2 ^ 64 → IsSpotOf name n → IsSpotOf name m → n ≡ m
one_spot name n m small low (inl e) (inl f) = decimal_injective n m small low (append_cancel_left (codes "new-") (decimal n) (decimal m) (sym e ∙ f))
one_spot name n m small low (inl e) (inr f) = absurd (omega (arith, ap (λ l. get_or l 0 0) (sym e ∙ f)))
one_spot name n m small low (inr e) (inl f) = absurd (omega (arith, ap (λ l. get_or l 0 0) (sym e ∙ f)))
one_spot name n m small low (inr e) (inr f) = decimal_injective n m small low (append_cancel_left (codes "old-") (decimal n) (decimal m) (sym e ∙ f))

-- the number that was added is the only one that the name tells
pub spot_there :
    (name : List ℕ) (old new : List ℕ) (number : ℕ) → number < 2 ^ 32 → new ≡ old ++ number ∷ [] → IsSpotOf name number
    → (n : ℕ) → n < 2 ^ 32 → IsSpotOf name n → Contains new n
spot_there name old new number low grown is n small said =
    subst (Contains new) (one_spot name number n (omega arith) (omega arith) is said)
    (subst (λ l. Contains l number) (sym grown) (Contains-append_right old (number ∷ []) number (0, omega arith, refl)))

-- what was there still is
pub spots_kept : (name old new : List ℕ) (number : ℕ) → new ≡ old ++ number ∷ [] → ((n : ℕ) → n < 2 ^ 32 → IsSpotOf name n → Contains old n) → (n : ℕ) → n < 2 ^ 32 → IsSpotOf name n → Contains new n
spots_kept name old new number grown held n small said = subst (λ l. Contains l n) (sym grown) (Contains-append_left old (number ∷ []) n (held n small said))

-- ---- something among what was gathered

pub any_kept : {B : Type 0} (P : B → Type 0) (old new : List B) (y : B) → new ≡ old ++ y ∷ [] → Any P old → Any P new
any_kept P old new y grown (k, x, small, at, held) =
    let there = subst (λ l. Contains l x) (sym grown) (Contains-append_left old (y ∷ []) x (k, small, at)) in
    (there.0, x, there.1, there.2, held)

pub any_last : {B : Type 0} (P : B → Type 0) (old new : List B) (y : B) → new ≡ old ++ y ∷ [] → P y → Any P new
any_last P old new y grown held =
    let there = subst (λ l. Contains l y) (sym grown) (Contains-append_right old (y ∷ []) y (0, omega arith, refl)) in
    (there.0, y, there.1, there.2, held)

-- texts of the same bytes count once, so what holds by the bytes of one still does
pub any_sorted :
    (P : List ℕ → Type 0) (old sorted new : List (String Global)) → IsPermutation old sorted → new ≡ dedup string_eq sorted
    → Any (λ s. P (string_bytes s)) old → Any (λ s. P (string_bytes s)) new
any_sorted P old sorted new moved once (k, x, small, at, held) =
    let there = Any-dedup string_eq_equiv sorted x (Contains-permutation old sorted x moved (k, small, at)) in
    let kept : Any (λ s. P (string_bytes s)) (dedup string_eq sorted) =
    (there.0, there.1, there.2, there.3, subst P ((bytes_eq-Decides (string_bytes x) (string_bytes there.1)).0 there.4) held) in
    subst (Any (λ s. P (string_bytes s))) (sym once) kept

-- what holds by a text's bytes holds of something that has them
pub any_same : (P : List ℕ → Type 0) (all : List (String Global)) (bytes : List ℕ) → Any (λ s. string_bytes s ≡ bytes) all → P bytes → Any (λ s. P (string_bytes s)) all
any_same P all bytes (k, x, small, at, same) held = (k, x, small, at, subst P (sym same) held)

-- ---- what stayed, or got one more

pub any_grown : {B : Type 0} (P : B → Type 0) (old new : List B) (y : B) → (new ≡ old) ⊎ (new ≡ old ++ y ∷ []) → Any P old → Any P new
any_grown P old new y (inl same) held = subst (Any P) (sym same) held
any_grown P old new y (inr grown) held = any_kept P old new y grown held

pub all_grown :
    {A B : Type 0} (R : A → B → Type 0) (xs : List A) (i : ℕ) (x : A) (old new : List B) (y : B) → i < length xs → x ≡ get_or xs i x → (new ≡ old) ⊎ (new ≡ old ++ y ∷ []) → R x y
    → All (λ z. Any (λ a. R a z) xs) old → All (λ z. Any (λ a. R a z) xs) new
all_grown R xs i x old new y small is (inl same) of held = subst (All (λ z. Any (λ a. R a z) xs)) (sym same) held
all_grown R xs i x old new y small is (inr grown) of held = from_more R xs i x old new y small is grown of held
