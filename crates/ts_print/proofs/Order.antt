-- More on the order of paths: what follows from one path not coming before another.
use Rattle.std.proofs.Common.{◌≡◌, false, Ordering, Less, Equal, Greater, subst, refl, sym, inl, inr}
use Rattle.std.specs.Ordering.{is_gt, ordering_reverse}
use Rattle.ts_name.specs.Paths.{Path, IsAbove, IsBefore, path_cmp}
use Rattle.ts_name.specs.Laws.{path_turned}
use Rattle.ts_name.proofs.Order.{before_itself, before_trans, before_cases, before_turned, above_first, between}
use Rattle.ts_name.proofs.Prefixes.{above_itself}

-- before what doesn't come before the next
pub before_upto : (p q r : Path) → IsBefore p q → ¬ IsBefore r q → IsBefore p r
before_upto p q r h n = elim (before_cases q r) [
  | inl less ↦ before_trans p q r h less
  | inr more ↦ elim more [
    | inl e ↦ subst (λ z. IsBefore p z) e h
    | inr less ↦ absurd (n less)
  ]
]

-- not after, and before
pub upto_before : (p q r : Path) → ¬ IsBefore q p → IsBefore q r → IsBefore p r
upto_before p q r n h = elim (before_cases p q) [
  | inl less ↦ before_trans p q r less h
  | inr more ↦ elim more [
    | inl e ↦ subst (λ z. IsBefore z r) (sym e) h
    | inr less ↦ absurd (n less)
  ]
]

-- what is above a path doesn't come after it
pub above_upto : (p q : Path) → IsAbove p q → ¬ IsBefore q p
above_upto p q h after = elim (above_first p q h) [
  | inl e ↦ before_itself q (subst (λ z. IsBefore q z) e after)
  | inr before ↦ before_turned p q before after
]

-- a path that the other doesn't come before isn't greater
not_greater : (p q : Path) → ¬ IsBefore q p → is_gt (path_cmp p q) ≡ false
not_greater p q n = go (path_cmp p q) (path_turned q p)
  where
    go : (o : Ordering) → path_cmp q p ≡ ordering_reverse o → is_gt o ≡ false
    go Less e = refl
    go Equal e = refl
    go Greater e = absurd (n e)

-- what stands between a path and something below it is below it
pub above_between : (p x q : Path) → IsAbove p q → ¬ IsBefore x p → ¬ IsBefore q x → IsAbove p x
above_between p x q h n m = between p p x q (above_itself p) h (not_greater p x n) (not_greater x q m)
