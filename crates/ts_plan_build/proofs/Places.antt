-- Places in lists that are put together.
use Rattle.std.proofs.Common.{◌≡◌, ◌⊎◌, ℕ, zero, suc, ◌+◌, ◌<◌, List, [], ◌∷◌, ◌++◌, length, length-append, Some, slice_get, refl, sym, ap, subst, inl, inr, arith}
use Rattle.std.proofs.lemmas.Bool.{cases_lt}
use Rattle.std.proofs.lemmas.Option.{none-some, slice_get_within}
use Rattle.ts_plan_build.specs.Blocks.{each_below}
use Rattle.ts_name.proofs.Basics.{same_at, got_front}

-- in the second
pub get_right : {A : Type 0} (xs ys : List A) (i j : ℕ) (x : A) → i ≡ length xs + j → slice_get ys j ≡ Some x → slice_get (xs ++ ys) i ≡ Some x
get_right [] ys i j x f e = subst (λ (k : ℕ). slice_get ys k ≡ Some x) (let g : j ≡ i = omega arith in g) e
get_right (y ∷ xs) ys zero j x f e = absurd (omega arith)
get_right (y ∷ xs) ys (suc i) j x f e = get_right xs ys i j x (omega arith) e

-- in one of them
pub get_cases : {A : Type 0} (xs ys : List A) (i : ℕ) (x : A) → slice_get (xs ++ ys) i ≡ Some x → (slice_get xs i ≡ Some x) ⊎ ((j : ℕ) × (i ≡ length xs + j) × (slice_get ys j ≡ Some x))
get_cases [] ys i x e = inr (i, omega arith, e)
get_cases (y ∷ xs) ys zero x e = inl e
get_cases (y ∷ xs) ys (suc i) x e = elim (get_cases xs ys i x e) [
  | inl h ↦ inl h
  | inr h ↦ inr (h.0, (let f : i ≡ length xs + h.0 = h.1 in omega arith), h.2)
]

-- of one
pub get_one : {A : Type 0} (y : A) (i : ℕ) (x : A) → slice_get (y ∷ []) i ≡ Some x → (i ≡ 0) × (x ≡ y)
get_one y zero x e = (refl, let f : Some y ≡ Some x = e in cc)
get_one y (suc i) x e = absurd (none-some x e)

-- ---- numbers below n

pub length-each_below : {A : Type 0} (f : ℕ → A) (n : ℕ) → length (each_below f n) ≡ n
length-each_below f zero = refl
length-each_below f (suc n) = let l : length (each_below f n) ≡ n = length-each_below f n in omega (arith, l, length-append (each_below f n) (f n ∷ []))

pub each_below_at : {A : Type 0} (f : ℕ → A) (n i : ℕ) → i < n → slice_get (each_below f n) i ≡ Some (f i)
each_below_at f zero i l = absurd (omega arith)
each_below_at f (suc n) i l = elim (cases_lt i n) [
  | inl less ↦ got_front (each_below f n) (f n ∷ []) i (f i) (each_below_at f n i less)
  | inr more ↦
      let same : i ≡ n = omega arith in
      get_right (each_below f n) (f n ∷ []) i 0 (f i) (let k : length (each_below f n) ≡ n = length-each_below f n in omega arith) (ap (λ (k : ℕ). Some (f k)) (sym same))
]

pub at_each_below : {A : Type 0} (f : ℕ → A) (n i : ℕ) (x : A) → slice_get (each_below f n) i ≡ Some x → (i < n) × (x ≡ f i)
at_each_below f n i x e =
    let within : i < length (each_below f n) = slice_get_within (each_below f n) i x e in
    let less : i < n = omega (arith, length-each_below f n) in
    (less, same_at (each_below f n) i x (f i) e (each_below_at f n i less))
