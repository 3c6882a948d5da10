-- Paths of which each later one comes after the earlier ones, and isn't below them.
use Rattle.std.proofs.Common.{◌≡◌, ℕ, zero, suc, ◌+◌, ◌<◌, Bool, true, false, List, [], ◌∷◌, length, get_or, drop, refl, sym, ap, subst, arith, add-one, drop-cons}
use Rattle.std.specs.List.{AllByRecursion}
use Rattle.std.specs.Ordering.{is_lt}
use Rattle.ts_name.specs.Paths.{Path, IsAbove, IsBefore, path_cmp}
use Rattle.ts_table.specs.Splits.{AreSeparate}
use Rattle.ts_name.proofs.Order.{late_between, before_itself, before_trans, is_lt_Less}
use Rattle.ts_name.proofs.Basics.{weaker}

-- what comes after a path doesn't come before it
not_early : (p q : Path) → IsBefore p q → is_lt (path_cmp q p) ≡ false
not_early p q before = go (is_lt (path_cmp q p)) refl
  where
    go : (b : Bool) → is_lt (path_cmp q p) ≡ b → is_lt (path_cmp q p) ≡ false
    go true e = absurd (before_itself p (before_trans p q p before (is_lt_Less _ e)))
    go false e = e

-- it is enough to compare each path with the next
pub separate_cons : (p q : Path) (rest : List Path) → IsBefore p q × (¬ IsAbove p q) → AreSeparate (q ∷ rest) → AreSeparate (p ∷ q ∷ rest)
separate_cons p q rest h more =
    ((h, weaker (λ (r : Path). IsBefore q r × (¬ IsAbove q r)) (λ r. IsBefore p r × (¬ IsAbove p r)) (λ r k. (before_trans p q r h.0 k.0, λ above. h.1 (late_between p q r (not_early p q h.0) k.0 above))) rest more.0), more)

-- the path at an index, and those behind it
pub behind_index : (paths : List Path) (i : ℕ) (p : Path) → i < length paths → p ≡ get_or paths i p → drop i paths ≡ p ∷ drop (i + 1) paths
behind_index paths i p under is = rw (add-one, drop-cons paths i p under) (ap (λ z. z ∷ drop (suc i) paths) (sym is))

-- what holds of all holds at an index
pub all_at : {A : Type 0} (P : A → Type 0) (xs : List A) (i : ℕ) (x : A) → i < length xs → x ≡ get_or xs i x → AllByRecursion P xs → P x
all_at P [] i x under is all = absurd (omega arith)
all_at P (y ∷ xs) zero x under is all = subst P (sym is) all.0
all_at P (y ∷ xs) (suc i) x under is all = all_at P xs i x (omega arith) is all.1
