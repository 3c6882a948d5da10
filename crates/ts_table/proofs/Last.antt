-- A path after all rows.
use Rattle.std.proofs.Common.{◌≡◌, ℕ, zero, suc, ◌-◌, ◌+◌, List, [], ◌∷◌, length, Some, None, refl, subst, arith, slice_get}
use Rattle.std.specs.List.{AllByRecursion}
use Rattle.ts_name.specs.Paths.{Path, IsBefore}
use Rattle.ts_model.specs.Trees.{Listing, Ascend}
use Rattle.ts_model.specs.declared.row.Row.{Row}
use Rattle.ts_name.proofs.Order.{before_trans}

-- what holds of each element holds of one that is found
pub all_get : {A : Type 0} (P : A → Type 0) (xs : List A) (n : ℕ) (x : A) → Some x ≡ slice_get xs n → AllByRecursion P xs → P x
all_get P [] n x e all = cc
all_get P (y ∷ ys) zero x e all = let same : y ≡ x = cc in subst P same all.0
all_get P (y ∷ ys) (suc n) x e all = all_get P ys n x e all.1

-- all rows come before what the last comes before
pub all_until : {F : Type 0} (p : Path) (rows : Listing F) (n : ℕ) (row : Row F) → length rows ≡ n + 1 → Some row ≡ slice_get rows n → Ascend rows → IsBefore row.path p → AllByRecursion (λ other. IsBefore other.path p) rows
all_until p [] n row long e up before = tt
all_until p (x ∷ []) zero row long e up before = let same : row ≡ x = cc in (subst (λ z. IsBefore z.path p) same before, tt)
all_until p (x ∷ []) (suc n) row long e up before = absurd (omega arith)
all_until p (x ∷ y ∷ rows) zero row long e up before = absurd (omega arith)
all_until p (x ∷ y ∷ rows) (suc n) row long e up before =
    let more = all_until p (y ∷ rows) n row (omega arith) e up.1 before in (before_trans x.path y.path p up.0 more.0, more)

-- where there is no last row there is none
pub none_last : {A : Type 0} (xs : List A) (n : ℕ) → n ≡ length xs - 1 → None ≡ slice_get xs n → xs ≡ []
none_last [] n long e = refl
none_last (x ∷ []) zero long e = cc
none_last (x ∷ []) (suc n) long e = absurd (omega arith)
none_last (x ∷ y ∷ xs) zero long e = cc
none_last (x ∷ y ∷ xs) (suc n) long e = let more = none_last (y ∷ xs) n (omega arith) e in cc
