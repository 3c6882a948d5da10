-- Lists that are made number by number, and the pieces of a file.
use Rattle.std.proofs.Common.{◌≡◌, ◌≢◌, ℕ, zero, suc, ◌+◌, ◌-◌, ◌*◌, ◌/◌, ◌<◌, ◌≤◌, ◌==◌, true, false, List, [], ◌∷◌, ◌++◌, refl, sym, ap, ◌∙◌, arith, eq-eqb}
use Rattle.std.proofs.lemmas.Bool.{ne_eqb}
use Rattle.std.proofs.Common.{Result, Ok, Err, IfErr}
use Rattle.ts_plan_build.specs.Blocks.{each_below, piece_count}

-- one more
pub each_more : {A : Type 0} (f : ℕ → A) (n m : ℕ) → m ≡ n + 1 → each_below f m ≡ each_below f n ++ f n ∷ []
each_more f n m e = ap (each_below f) (let s : m ≡ suc n = omega arith in s)

-- none of a file of no bytes
pub count_none : (size : ℕ) → size ≡ 0 → 0 ≡ piece_count size
unfolding piece_count
count_none size e = let t : (size == 0) ≡ true = eq-eqb size 0 e in rw t refl

-- and else
pub count_some : (size : ℕ) → size ≢ 0 → (size - 1) / 1048576 + 1 ≡ piece_count size
unfolding piece_count
count_some size n = let t : (size == 0) ≡ false = ne_eqb size 0 n in rw t refl

-- a piece begins within its file
pub piece_within : (size j : ℕ) → j < piece_count size → j * 1048576 < size
piece_within size j l = elim (cases size) [
  | yes e ↦ absurd (let z : 0 ≡ piece_count size = count_none size e in omega arith)
  | no n ↦ let z : (size - 1) / 1048576 + 1 ≡ piece_count size = count_some size n in omega arith
]
  where
    cases : (size : ℕ) → Dec (size ≡ 0)
    cases zero = yes refl
    cases (suc n) = no (λ e. omega arith)

-- a list of numbers with the next one
pub numbers_more : (from n : ℕ) (old new : List ℕ) → from ≤ n → old ≡ each_below (λ i. from + i) (n - from) → new ≡ old ++ n ∷ [] → new ≡ each_below (λ i. from + i) (n + 1 - from)
numbers_more from n old new l e f =
    f ∙ ap (λ (z : List ℕ). z ++ n ∷ []) e ∙ ap (λ (z : ℕ). each_below (λ i. from + i) (n - from) ++ z ∷ []) (let same : n ≡ from + (n - from) = omega arith in same)
    ∙ sym (each_more (λ i. from + i) (n - from) (n + 1 - from) (omega arith))

-- and of an Err
pub IfErr-map : {T E : Type 0} {P Q : E → Type 0} (r : Result T E) → ((e : E) → P e → Q e) → IfErr r P → IfErr r Q
IfErr-map (Ok x) f h = h
IfErr-map (Err e) f h = f e h
