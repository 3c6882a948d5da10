-- What halving finds in paths that are in order.
use Rattle.std.proofs.Common.{◌≡◌, ℕ, zero, suc, Bool, true, false, ◌||◌, List, [], ◌∷◌, Contains, inl, inr, Result, Ok, Err, Less, Greater, ap, arith, is_ok, length, get_or, refl, subst, sym, ◌∙◌}
use Rattle.std.specs.List.Sorted.{IsBinarySearchResult, IsPartitionPoint, IsSearchInRange, IsSortedBy}
use Rattle.std.specs.Ordering.{is_lt}
use Rattle.std.proofs.lemmas.Bool.{cases_lt}
use Rattle.std.proofs.lemmas.List.Sorted.{searchable_from_sorted}
use Rattle.ts_name.specs.Laws.{path_itself, path_total, same_path_equal, same_path_itself, tied_paths}
use Rattle.ts_name.specs.Paths.{Path, path_cmp, same_path}
use Rattle.ts_special.specs.Specials.{is_among}

-- where a search ends, the path isn't elsewhere
not_there : (paths : List Path) (p : Path) (i : ℕ) → IsPartitionPoint (λ q. path_cmp q p ≡ Less) (λ q. path_cmp q p ≡ Greater) paths i → ¬ Contains paths p
not_there paths p i (less, greater) (k, within, here) = elim (cases_lt k i) [
  | inl before ↦ (let lower : path_cmp p p ≡ Less = subst (λ q. path_cmp q p ≡ Less) here (less k p (omega arith) before) in let same = path_itself p in cc)
  | inr after ↦ (let higher : path_cmp p p ≡ Greater = subst (λ q. path_cmp q p ≡ Greater) here (greater k p after within) in let same = path_itself p in cc)
]

-- whether a path is among others
pub among_there : (paths : List Path) (p : Path) → is_among paths p ≡ true → Contains paths p
among_there [] p is = cc
among_there (q ∷ paths) p is = go (same_path q p) refl (among_there paths p)
  where
    go : (b : Bool) → same_path q p ≡ b → (is_among paths p ≡ true → Contains paths p) → Contains (q ∷ paths) p
    go true same below = (0, omega arith, same_path_equal q p same)
    go false other below = let later = below (sym (ap (λ b. b || is_among paths p) other) ∙ is) in (suc later.0, omega (arith, later.1), later.2)

pub there_among : (paths : List Path) (p : Path) → Contains paths p → is_among paths p ≡ true
there_among [] p (k, within, here) = absurd (omega (arith, within))
there_among (q ∷ paths) p (zero, within, here) = ap (λ b. b || is_among paths p) (subst (λ x. same_path x p ≡ true) (sym here) (same_path_itself p))
there_among (q ∷ paths) p (suc k, within, here) = go (same_path q p) (there_among paths p (k, omega (arith, within), here))
  where
    go : (b : Bool) → is_among paths p ≡ true → b || is_among paths p ≡ true
    go true later = refl
    go false later = later

-- whether a search found a path is whether it is among those that were searched
found_there : (paths : List Path) (p : Path) (r : Result ℕ ℕ) → IsSortedBy (λ q other. is_lt (path_cmp q other)) paths → IsSearchInRange r (length paths)
    → IsBinarySearchResult (λ q. path_cmp q p) paths r → is_ok r ≡ is_among paths p
found_there paths p (Ok k) up within found = sym (there_among paths p (k, within, tied_paths (get_or paths k p) p (found p)))
found_there paths p (Err i) up within ended = go (is_among paths p) refl
  where
    go : (b : Bool) → is_among paths p ≡ b → false ≡ b
    go true among = absurd (not_there paths p i (ended (searchable_from_sorted path_total (λ q. q) paths p up)) (among_there paths p among))
    go false among = refl

-- the same of what a value holds, and what was searched
pub tells_there : (held paths seen : List Path) (p : Path) (r : Result ℕ ℕ) (answer : Bool) → paths ≡ held → seen ≡ paths → answer ≡ is_ok r
    → IsSortedBy (λ q other. is_lt (path_cmp q other)) paths → IsSearchInRange r (length seen) → IsBinarySearchResult (λ q. path_cmp q p) seen r → answer ≡ is_among held p
tells_there held paths seen p r answer has saw says up within found =
    says ∙ found_there paths p r up (subst (λ l. IsSearchInRange r (length l)) saw within) (subst (λ l. IsBinarySearchResult (λ q. path_cmp q p) l r) saw found)
    ∙ ap (λ l. is_among l p) has
