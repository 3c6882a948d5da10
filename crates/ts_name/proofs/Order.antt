-- The order of names and of paths, what it says of paths above one another, and their equality tests.
use Rattle.std.proofs.Common.{◌≡◌, ◌≢◌, ◌⊎◌, ⊎_elim, ◌==◌, ℕ, true, false, eqb, ltb, List, [], ◌∷◌, ◌++◌, Ordering, Less, Equal, Greater, nat_cmp, refl, sym, ap, ap₂, subst, ◌∙◌, inl, inr, eqb-true, append-nil, arith}
use Rattle.std.proofs.lemmas.Bool.{cond-true, cond-false, false_from_ne_true, true≢false, lt-ltb, ltb-true}
use Rattle.std.proofs.lemmas.Bool.Decides.{same_from_decides}
use Rattle.std.proofs.lemmas.Cmp.{nat_list_cmp_total, tied_itself}
use Rattle.std.proofs.lemmas.Map.Lookups.{exact_bytes}
use Rattle.std.specs.Cmp.Lexicographic.{slice_cmp}
use Rattle.std.specs.Ordering.{ordering_then, ordering_reverse, is_gt, is_lt}
use Rattle.ts_name.specs.Paths.{Name, Path, IsAbove, IsBefore, path_cmp, same_name, same_path}
use Rattle.ts_name.specs.Buffers.{pieces, ended, HasNo}
use Rattle.ts_name.proofs.Buffers.{AreFree, Holds, bytes_held, free_held}
use Rattle.ts_name.proofs.Prefixes.{above_itself}
use Rattle.std.proofs.lemmas.Slice.Eq.{bytes_eq-Decides}
use Rattle.std.specs.Cmp.Lexicographic.{pointwise}
use Rattle.ts_name.specs.Laws.{path_total, tied_paths, path_itself, path_turned, same_path_equal, same_path_itself, same_name_equal, same_name_itself}

-- ---- tests of an order

pub is_lt_Less : (o : Ordering) → is_lt o ≡ true → o ≡ Less
is_lt_Less Less e = refl
is_lt_Less Equal e = cc
is_lt_Less Greater e = cc

-- ---- the order of paths is that of their buffers

then_then : (o r s : Ordering) → ordering_then o (ordering_then r s) ≡ ordering_then (ordering_then o r) s
then_then Less r s = refl
then_then Equal r s = refl
then_then Greater r s = refl

zero_first : (b : ℕ) → b ≢ 0 → nat_cmp 0 b ≡ Less
zero_first b n = cond-true (ltb 0 b) Less _ (lt-ltb 0 b (omega arith))

zero_last : (b : ℕ) → b ≢ 0 → nat_cmp b 0 ≡ Greater
zero_last b n =
    cond-false (ltb b 0) Less _ (false_from_ne_true (ltb b 0) (λ e. absurd (omega (arith, ltb-true b 0 e)))) ∙ cond-false (b == 0) Equal Greater (false_from_ne_true (b == 0) (λ e. n (eqb-true b 0 e)))

-- names with their zero bytes are in the order of the names, then of what follows
names_first : (x y p q : List ℕ) → HasNo 0 x → HasNo 0 y → slice_cmp nat_cmp ((x ++ 0 ∷ []) ++ p) ((y ++ 0 ∷ []) ++ q) ≡ ordering_then (slice_cmp nat_cmp x y) (slice_cmp nat_cmp p q)
names_first [] [] p q h k = refl
names_first [] (b ∷ y) p q h k =
    ap (λ o. ordering_then o (slice_cmp nat_cmp p ((y ++ 0 ∷ []) ++ q))) (zero_first b k.0)
names_first (a ∷ x) [] p q h k =
    ap (λ o. ordering_then o (slice_cmp nat_cmp ((x ++ 0 ∷ []) ++ p) q)) (zero_last a h.0)
names_first (a ∷ x) (b ∷ y) p q h k =
    ap (ordering_then (nat_cmp a b)) (names_first x y p q h.1 k.1) ∙ then_then (nat_cmp a b) (slice_cmp nat_cmp x y) (slice_cmp nat_cmp p q)

nothing_first : (x p : List ℕ) → slice_cmp nat_cmp [] ((x ++ 0 ∷ []) ++ p) ≡ Less
nothing_first [] p = refl
nothing_first (b ∷ x) p = refl

nothing_last : (x p : List ℕ) → slice_cmp nat_cmp ((x ++ 0 ∷ []) ++ p) [] ≡ Greater
nothing_last [] p = refl
nothing_last (b ∷ x) p = refl

-- the order of paths is that of their bytes
pub order-ended : (p q : Path) → AreFree 0 p → AreFree 0 q → slice_cmp nat_cmp (ended 0 p) (ended 0 q) ≡ path_cmp p q
order-ended [] [] h k = refl
order-ended [] (y ∷ q) h k = nothing_first y (ended 0 q)
order-ended (x ∷ p) [] h k = nothing_last x (ended 0 p)
order-ended (x ∷ p) (y ∷ q) h k =
    names_first x y (ended 0 p) (ended 0 q) h.0 k.0 ∙ ap (ordering_then (slice_cmp nat_cmp x y)) (order-ended p q h.1 k.1)

-- ---- what comes first

-- whether a path comes before another
pub decide_before : (p q : Path) → Dec (IsBefore p q)
decide_before p q = go (path_cmp p q) refl
  where
    go : (o : Ordering) → path_cmp p q ≡ o → Dec (IsBefore p q)
    go Less e = yes e
    go Equal e = no (λ f. cc)
    go Greater e = no (λ f. cc)

-- no path comes before itself
pub before_itself : (p : Path) → ¬ IsBefore p p
before_itself p h = let same : path_cmp p p ≡ Equal = path_itself p in cc

-- before what is before
pub before_trans : (p q r : Path) → IsBefore p q → IsBefore q r → IsBefore p r
before_trans p q r h k = path_total.trans p q r h k

-- what comes after another has that before it
pub before_flip : (p q : Path) → path_cmp p q ≡ Greater → IsBefore q p
before_flip p q e = path_total.antisymm q p ∙ ap ordering_reverse e

-- one is before the other, or they are equal
pub before_cases : (p q : Path) → IsBefore p q ⊎ ((p ≡ q) ⊎ IsBefore q p)
before_cases p q = go (path_cmp p q) refl
  where
    go : (o : Ordering) → path_cmp p q ≡ o → IsBefore p q ⊎ ((p ≡ q) ⊎ IsBefore q p)
    go Less e = inl e
    go Equal e = inr (inl (tied_paths p q e))
    go Greater e = inr (inr (before_flip p q e))

-- and only one of the three
pub before_turned : (p q : Path) → IsBefore p q → ¬ IsBefore q p
before_turned p q h k = before_itself p (before_trans p q p h k)

-- after a common front the rest decides
pub cmp_below : (p x y : Path) → path_cmp (p ++ x) (p ++ y) ≡ path_cmp x y
cmp_below [] x y = refl
cmp_below (n ∷ p) x y =
    ap (λ o. ordering_then o (path_cmp (p ++ x) (p ++ y))) (tied_itself nat_list_cmp_total n) ∙ cmp_below p x y

-- a path comes before what is strictly below it
pub before_below : (p : Path) (name : Name) (rest : Path) → IsBefore p (p ++ name ∷ rest)
before_below p name rest =
    subst (λ z. path_cmp z (p ++ name ∷ rest) ≡ Less) (append-nil p) (cmp_below p [] (name ∷ rest))

-- what is above a path is the same or comes before it
pub above_first : (p q : Path) → IsAbove p q → (p ≡ q) ⊎ IsBefore p q
above_first p q ([], e) = inl (sym (append-nil p) ∙ sym e)
above_first p q (name ∷ rest, e) = inr (subst (λ z. IsBefore p z) (sym e) (before_below p name rest))

-- so it comes before it where they differ
pub before_from_above : (p q : Path) → IsAbove p q → p ≢ q → IsBefore p q
before_from_above p q h differ = ⊎_elim (λ e. absurd (differ e)) (λ before. before) (above_first p q h)

-- what comes before a path comes before what is below it
pub before_all_below : (q p rest : Path) → IsBefore q p → IsBefore q (p ++ rest)
before_all_below q p [] h = subst (λ z. IsBefore q z) (sym (append-nil p)) h
before_all_below q p (name ∷ rest) h = before_trans q p (p ++ name ∷ rest) h (before_below p name rest)

-- and isn't below it
pub before_not_below : (q p : Path) → IsBefore q p → ¬ IsAbove p q
before_not_below q p h above = before_itself q (subst (λ z. IsBefore q z) (sym above.1) (before_all_below q p above.0 h))

-- ---- what is at or below a path stands together

-- between two paths below p all are below p
pub between : (p a b c : Path) → IsAbove p a → IsAbove p c → is_gt (path_cmp a b) ≡ false → is_gt (path_cmp b c) ≡ false → IsAbove p b
between [] a b c h k f g = (b, refl)
between (n ∷ p) a [] c (x, e) k f g =
    absurd (true≢false (ap (λ z. is_gt (path_cmp z [])) (sym e) ∙ f))
between (n ∷ p) a (m ∷ b) c (x, e) (y, i) f g =
    go (slice_cmp nat_cmp n m) refl (ap (λ z. is_gt (path_cmp z (m ∷ b))) (sym e) ∙ f) (ap (λ z. is_gt (path_cmp (m ∷ b) z)) (sym i) ∙ g) (between p (p ++ x) b (p ++ y) (x, refl) (y, refl))
  where
    go : (o : Ordering) → slice_cmp nat_cmp n m ≡ o → is_gt (ordering_then (slice_cmp nat_cmp n m) (path_cmp (p ++ x) b)) ≡ false → is_gt (ordering_then (slice_cmp nat_cmp m n) (path_cmp b (p ++ y))) ≡ false → (is_gt (path_cmp (p ++ x) b) ≡ false → is_gt (path_cmp b (p ++ y)) ≡ false → IsAbove p b) → IsAbove (n ∷ p) (m ∷ b)
    go Less h f g more =
        let back : slice_cmp nat_cmp m n ≡ Greater = nat_list_cmp_total.antisymm m n ∙ ap ordering_reverse h in
        absurd (true≢false (sym (ap (λ o. is_gt (ordering_then o (path_cmp b (p ++ y)))) back) ∙ g))
    go Equal h f g more =
        let same : n ≡ m = exact_bytes n m h in
        let back : slice_cmp nat_cmp m n ≡ Equal = nat_list_cmp_total.antisymm m n ∙ ap ordering_reverse h in
        let found = more (sym (ap (λ o. is_gt (ordering_then o (path_cmp (p ++ x) b))) h) ∙ f) (sym (ap (λ o. is_gt (ordering_then o (path_cmp b (p ++ y)))) back) ∙ g) in
        (found.0, ap₂ ◌∷◌ (sym same) found.1)
    go Greater h f g more = absurd (true≢false (sym (ap (λ o. is_gt (ordering_then o (path_cmp (p ++ x) b))) h) ∙ f))

-- as what stands between a path and something below it
pub above_between : (p q r : Path) → IsAbove p r → IsBefore p q → IsBefore q r → IsAbove p q
above_between p q r h first second = between p p q r (above_itself p) h (ap is_gt first) (ap is_gt second)

-- or what isn't before the path, and is before something below it
pub late_between : (p q r : Path) → is_lt (path_cmp q p) ≡ false → IsBefore q r → IsAbove p r → IsAbove p q
late_between p q r late before above =
    between p p q r (above_itself p) above (ap is_gt (path_turned p q) ∙ turned (path_cmp q p) late) (ap is_gt before)
  where
    turned : (o : Ordering) → is_lt o ≡ false → is_gt (ordering_reverse o) ≡ false
    turned Less e = cc
    turned Equal e = refl
    turned Greater e = refl

-- what comes after a path and isn't below it comes after all that is below it
pub below_before : (p x r : Path) → IsBefore p r → ¬ IsAbove p r → IsBefore (p ++ x) r
below_before p x r h off = elim (before_cases (p ++ x) r) [
  | inl before ↦ before
  | inr more ↦ elim more [
    | inl e ↦ absurd (off (x, sym e))
    | inr after ↦ absurd (off (above_between p r (p ++ x) (x, refl) h after))
  ]
]

-- ---- by the bytes that hold the paths

-- their order is that of the paths
pub order_held : (b d : List ℕ) (p q : Path) → Holds b p → Holds d q → slice_cmp nat_cmp b d ≡ path_cmp p q
order_held b d p q h k =
    ap₂ (slice_cmp nat_cmp) (bytes_held h) (bytes_held k) ∙ order-ended p q (free_held h) (free_held k)

-- and they are equal where the paths are
pub same_held : (b d : List ℕ) (p q : Path) → Holds b p → Holds d q → pointwise eqb b d ≡ same_path p q
same_held b d p q h k =
    same_from_decides {P = p ≡ q} (pointwise eqb b d) (same_path p q) (λ e. sym h.path_is ∙ ap (pieces 0) ((bytes_eq-Decides b d).0 e) ∙ k.path_is, λ e. (bytes_eq-Decides b d).1 (bytes_held h ∙ ap (ended 0) e ∙ sym (bytes_held k))) (same_path_equal p q, λ e. subst (λ z. same_path p z ≡ true) e (same_path_itself p))

-- the test of names tells their bytes
pub same_name_held : (x y : List ℕ) → pointwise eqb x y ≡ same_name x y
same_name_held x y =
    same_from_decides {P = x ≡ y} (pointwise eqb x y) (same_name x y) (bytes_eq-Decides x y) (same_name_equal x y, λ e. subst (λ z. same_name x z ≡ true) e (same_name_itself x))
