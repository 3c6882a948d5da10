-- Places in order, and what is looked up among them.
use Rattle.std.proofs.Common.{◌≡◌, ℕ, ◌+◌, ◌-◌, ◌<◌, ◌≤◌, ◌==◌, false, not, List, length, get_or, Contains, Some, is_some, Result, Ok, Err, Ordering, Less, Equal, Greater, sym, refl, ap, ◌∙◌, subst, inl, inr, arith}
use Rattle.std.specs.Cmp.{IsTotalOrder}
use Rattle.std.specs.List.{All}
use Rattle.std.specs.List.Sorted.{IsBinarySearchResult, IsNonDecreasingBy, IsSearchInRange}
use Rattle.std.specs.Map.{keys_of}
use Rattle.std.specs.Ordering.{nat_cmp, ordering_index, ordering_reverse, ordering_then}
use Rattle.std.specs.Result.{is_ok}
use Rattle.std.proofs.lemmas.Bool.{cases_eq, false≢true}
use Rattle.std.proofs.lemmas.Cmp.{eq_by_cmp_equiv, nat_cmp_total, on_total, then_total}
use Rattle.std.proofs.lemmas.List.{get_or-map, get_or_default, length-map}
use Rattle.std.proofs.lemmas.Map.Entries.{lookup_at_gap}
use Rattle.std.proofs.lemmas.Map.Keys.{IsDistinct-from_sorted, Less-from_sorted, sorted_from_all_adjacent}
use Rattle.std.proofs.lemmas.Map.Lookups.{exact_pairs, exact_unsigned}
use Rattle.std.proofs.lemmas.Map.Views.{lookup-from_Contains}
use Rattle.std.proofs.lemmas.Option.{get_or_from_slice_get, slice_get_within}
use Rattle.ts_check.specs.Pieces.{Place, AreInOrder, place_cmp, staged_at}

-- places that compare equal are equal
pub place_eq : (x y : Place) → place_cmp x y ≡ Equal → x ≡ y
place_eq x y e = exact_pairs nat_cmp (λ (a b : ℕ × ℕ). ordering_then (nat_cmp a.0 b.0) (nat_cmp a.1 b.1)) exact_unsigned (exact_pairs nat_cmp nat_cmp exact_unsigned exact_unsigned) x y e

pub place_total : IsTotalOrder place_cmp
place_total = then_total (on_total (λ (x : Place). x.0) nat_cmp_total) (then_total (on_total (λ (x : Place). x.1.0) nat_cmp_total) (on_total (λ (x : Place). x.1.1) nat_cmp_total))

-- what is listed at a place is found there
pub found_from : (staged : List (Place × ℕ)) → AreInOrder staged → (z : Place) (i : ℕ) → Contains staged (z, i) → staged_at staged z ≡ Some i
found_from staged sorted z i h = lookup-from_Contains (eq_by_cmp_equiv place_total) z i staged (IsDistinct-from_sorted place_cmp (keys_of staged) sorted) h

pub all_found : (staged : List (Place × ℕ)) → AreInOrder staged → All (λ (x : Place × ℕ). staged_at staged x.0 ≡ Some x.1) staged
all_found staged sorted k d less = let x = get_or staged k d in found_from staged sorted x.0 x.1 (k, less, get_or_default staged k x d less)

-- ---- a search

-- of two places in order, the later isn't less against any other
after_place : (x y z : Place) → place_cmp x y ≡ Less → ordering_index (place_cmp x z) ≤ ordering_index (place_cmp y z)
after_place x y z less = go (place_cmp x z) refl
  where
    go : (o : Ordering) → place_cmp x z ≡ o → ordering_index (place_cmp x z) ≤ ordering_index (place_cmp y z)
    go Less e = rw e (omega arith)
    go Equal e =
        let up : place_cmp y z ≡ Greater = place_total.antisymm y z ∙ ap ordering_reverse (sym (place_total.congr x z y e) ∙ less) in
        rw (e, up) (omega arith)
    go Greater e =
        let down : place_cmp z x ≡ Less = place_total.antisymm z x ∙ ap ordering_reverse e in
        let up : place_cmp y z ≡ Greater = place_total.antisymm y z ∙ ap ordering_reverse (place_total.trans z x y down less) in
        rw (e, up) (omega arith)

-- there are as many keys as there are entries
count_keys : (xs : List (Place × ℕ)) → length (keys_of xs) ≡ length xs
count_keys xs = length-map xs (λ (x : Place × ℕ). x.0)

less_at : (staged : List (Place × ℕ)) → AreInOrder staged → (i j : ℕ) (d : Place × ℕ) → i < j → j < length staged → place_cmp (get_or staged i d).0 (get_or staged j d).0 ≡ Less
less_at staged sorted i j d less within =
    let key : (k : ℕ) → k < length staged → get_or (keys_of staged) k d.0 ≡ (get_or staged k d).0 = λ k low. get_or-map (λ (x : Place × ℕ). x.0) staged k d d.0 low in
    subst (λ z. place_cmp z (get_or staged j d).0 ≡ Less) (key i (omega arith)) (subst (λ z. place_cmp (get_or (keys_of staged) i d.0) z ≡ Less) (key j within)
    (Less-from_sorted place_cmp (keys_of staged) i j d.0 sorted less (let e = count_keys staged in omega arith)))

rises : (staged : List (Place × ℕ)) → AreInOrder staged → (z : Place) → IsNonDecreasingBy (λ (x : Place × ℕ). ordering_index (place_cmp x.0 z)) staged
rises staged sorted z i j d le within = elim (cases_eq i j) [
  | inl same ↦ rw same (omega arith)
  | inr differ ↦ after_place (get_or staged i d).0 (get_or staged j d).0 z (less_at staged sorted i j d (omega arith) within)
]

-- a binary search finds a place exactly where something stands there
pub search_tells : (staged : List (Place × ℕ)) → AreInOrder staged → (z : Place) (r : Result ℕ ℕ) → IsSearchInRange r (length staged) → IsBinarySearchResult (λ (x : Place × ℕ). place_cmp x.0 z) staged r → is_ok r ≡ is_some (staged_at staged z)
search_tells staged sorted z (Ok i) within hit =
    let d : Place × ℕ = (z, 0) in
    let same : (get_or staged i d).0 ≡ z = place_eq (get_or staged i d).0 z (hit d) in
    sym (ap is_some (subst (λ w. staged_at staged w ≡ Some (get_or staged i d).1) same (all_found staged sorted i d within)))
search_tells staged sorted z (Err i) within gap =
    let sides = gap (rises staged sorted z) in
    sym (ap is_some (lookup_at_gap place_total z staged i sorted
    (λ j e less is. place_total.antisymm z e.0 ∙ ap ordering_reverse (subst (λ (x : Place × ℕ). place_cmp x.0 z ≡ Less) (get_or_from_slice_get staged j e e is) (sides.0 j e (omega arith) less)))
    (λ e is. place_total.antisymm z e.0 ∙ ap ordering_reverse (subst (λ (x : Place × ℕ). place_cmp x.0 z ≡ Greater) (get_or_from_slice_get staged i e e is) (sides.1 i e (omega arith) (slice_get_within staged i e is))))))

-- ---- places each before the next

pub is_less : (o : Ordering) → false ≡ not (ordering_index o == 0) → o ≡ Less
is_less Less e = refl
is_less Equal e = absurd (false≢true e)
is_less Greater e = absurd (false≢true e)

module _ (staged : List (Place × ℕ)) where
  -- so far
  abbrev pub AreInOrderBelow : ℕ → Type 0
  AreInOrderBelow k = (j : ℕ) → j + 1 < k → place_cmp (get_or staged j ((0, (0, 0)), 0)).0 (get_or staged (j + 1) ((0, (0, 0)), 0)).0 ≡ Less

  -- one more
  pub in_order_more : (k : ℕ) → AreInOrderBelow k → place_cmp (get_or staged (k - 1) ((0, (0, 0)), 0)).0 (get_or staged k ((0, (0, 0)), 0)).0 ≡ Less → AreInOrderBelow (k + 1)
  in_order_more k so_far here j less = elim (cases_eq (j + 1) k) [
    | inl same ↦ subst (λ z. place_cmp (get_or staged j ((0, (0, 0)), 0)).0 (get_or staged z ((0, (0, 0)), 0)).0 ≡ Less) (sym same) (subst (λ z. place_cmp (get_or staged z ((0, (0, 0)), 0)).0 (get_or staged k ((0, (0, 0)), 0)).0 ≡ Less) (let e : k - 1 ≡ j = omega arith in e) here)
    | inr differ ↦ so_far j (omega arith)
  ]

  -- all of them
  pub in_order_all : (k : ℕ) → length staged ≤ k → AreInOrderBelow k → AreInOrder staged
  in_order_all k all so_far = sorted_from_all_adjacent place_total (keys_of staged) (0, (0, 0)) (λ j less.
      let count = count_keys staged in
      subst (λ z. place_cmp z (get_or (keys_of staged) (j + 1) (0, (0, 0))) ≡ Less) (sym (key_at staged j (omega arith)))
      (subst (λ z. place_cmp (get_or staged j ((0, (0, 0)), 0)).0 z ≡ Less) (sym (key_at staged (j + 1) (omega arith))) (so_far j (omega arith))))
    where
      key_at : (xs : List (Place × ℕ)) (i : ℕ) → i < length xs → get_or (keys_of xs) i (0, (0, 0)) ≡ (get_or xs i ((0, (0, 0)), 0)).0
      key_at xs i low = get_or-map (λ (x : Place × ℕ). x.0) xs i ((0, (0, 0)), 0) (0, (0, 0)) low
