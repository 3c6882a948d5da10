-- Paths with a reason that are no entries.
use Rattle.std.proofs.Common.{◌≡◌, ℕ, zero, suc, ◌+◌, ◌<◌, ◌≤◌, Bool, true, false, cond, List, [], ◌∷◌, length, count_by, Option, Some, None, slice_get, refl, ap, arith}
use Rattle.std.proofs.lemmas.List.Sums.{sum_by-cons}
use Rattle.ts_need.specs.Needs.{IsFirst}

-- counting what passes before a place, where nothing passes from there on
pub count_front : {A : Type 0} (f : A → Bool) (xs : List A) (i : ℕ) → i ≤ length xs → ((k : ℕ) (x : A) → slice_get xs k ≡ Some x → k < i → f x ≡ true) → ((k : ℕ) (x : A) → slice_get xs k ≡ Some x → i ≤ k → f x ≡ false) → count_by f xs ≡ i
count_front f [] i le front back = omega arith
count_front {A} f (x ∷ xs) zero le front back =
    let here : ◌≡◌ {A = ℕ} (cond (f x) 1 0) 0 = ap (λ (b : Bool). cond {A = ℕ} b 1 0) (back 0 x refl (omega arith)) in
    let rest : count_by f xs ≡ 0 = count_front f xs 0 (omega arith) (λ k y is less. absurd (let none : k < 0 = less in omega arith)) (λ k y is more. back (suc k) y is (omega arith)) in
    let whole : count_by f (x ∷ xs) ≡ cond (f x) 1 0 + count_by f xs = sum_by-cons (λ (y : A). cond (f y) 1 0) x xs in
    omega arith
count_front {A} f (x ∷ xs) (suc i) le front back =
    let here : ◌≡◌ {A = ℕ} (cond (f x) 1 0) 1 = ap (λ (b : Bool). cond {A = ℕ} b 1 0) (front 0 x refl (omega arith)) in
    let rest : count_by f xs ≡ i = count_front f xs i (omega arith) (λ k y is less. front (suc k) y is (let h : k < i = less in omega arith)) (λ k y is more. back (suc k) y is (let h : i ≤ k = more in omega arith)) in
    let whole : count_by f (x ∷ xs) ≡ cond (f x) 1 0 + count_by f xs = sum_by-cons (λ (y : A). cond (f y) 1 0) x xs in
    omega arith

pub IsFirst-same : (A B : ℕ → Type 0) → ((k : ℕ) → A k → B k) → ((k : ℕ) → B k → A k) → (o : Option ℕ) → IsFirst A o → IsFirst B o
IsFirst-same A B to from None h = λ k wrong. h k (from k wrong)
IsFirst-same A B to from (Some i) h = (to i h.0, λ j less wrong. h.1 j less (from j wrong))
