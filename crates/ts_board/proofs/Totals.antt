-- Sums over the views of all passes.
use Rattle.std.proofs.Common.{◌≡◌, ◌≢◌, ℕ, zero, suc, ◌+◌, ◌≤◌, List, [], ◌∷◌, ◌++◌, set, sym, refl, ap, arith}
use mathlib.Core.Option.{some, some-injective, some-ne-none}
use lib.ListN.{get_elem?}
use Rattle.ts_board.specs.declared.law.View.{View}
use Rattle.ts_board.specs.Kept.{total}

pub total_set : (f : View → ℕ) (views : List View) (id : ℕ) (v w : View) → get_elem? views id ≡ some v → total f (set views id w) + f v ≡ total f views + f w
total_set f [] id v w at = absurd (some-ne-none v (sym at))
total_set f (u ∷ us) zero v w at = let e : f u ≡ f v = ap f (some-injective u v at) in omega arith
total_set f (u ∷ us) (suc id) v w at = omega (arith, total_set f us id v w at)

-- a view that counts as the one before
pub total_same : (f : View → ℕ) (views : List View) (id : ℕ) (v w : View) → get_elem? views id ≡ some v → f w ≡ f v → total f (set views id w) ≡ total f views
total_same f views id v w at e = omega (arith, total_set f views id v w at)

pub total_at : (f : View → ℕ) (views : List View) (id : ℕ) (v : View) → get_elem? views id ≡ some v → f v ≤ total f views
total_at f [] id v at = absurd (some-ne-none v (sym at))
total_at f (u ∷ us) zero v at = let e : f u ≡ f v = ap f (some-injective u v at) in omega arith
total_at f (u ∷ us) (suc id) v at = omega (arith, total_at f us id v at)

pub total_two : (f : View → ℕ) (views : List View) (id j : ℕ) (v u : View) → j ≢ id → get_elem? views id ≡ some v → get_elem? views j ≡ some u → f v + f u ≤ total f views
total_two f [] id j v u ne at to = absurd (some-ne-none v (sym at))
total_two f (x ∷ xs) zero zero v u ne at to = absurd (ne refl)
total_two f (x ∷ xs) zero (suc j) v u ne at to = let e : f x ≡ f v = ap f (some-injective x v at) in omega (arith, total_at f xs j u to)
total_two f (x ∷ xs) (suc id) zero v u ne at to = let e : f x ≡ f u = ap f (some-injective x u to) in omega (arith, total_at f xs id v at)
total_two f (x ∷ xs) (suc id) (suc j) v u ne at to = omega (arith, total_two f xs id j v u (λ e. ne (ap suc e)) at to)

pub total_push : (f : View → ℕ) (views : List View) (w : View) → total f (views ++ w ∷ []) ≡ total f views + f w
total_push f [] w = omega arith
total_push f (u ∷ us) w = omega (arith, total_push f us w)
