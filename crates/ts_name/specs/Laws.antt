-- What `==` and `cmp` of names and of paths obey: they are an equality and a total order.
use Rattle.std.proofs.Common.{◌≡◌, ◌≢◌, ◌==◌, true, false, [], ◌∷◌, Ordering, Less, Equal, Greater, nat_cmp, Some, refl, sym, ap, ap₂, subst, eqb-true, eq-eqb}
use Rattle.std.proofs.lemmas.Bool.{and_parts, and_from, false_from_ne_true}
use Rattle.std.proofs.lemmas.Bool.Decides.{same_from_decides}
use Rattle.std.proofs.lemmas.Cmp.{lists_total, nat_list_cmp_total, tied_itself, eq_by_cmp_equiv}
use Rattle.std.proofs.lemmas.Map.Lookups.{exact_bytes}
use Rattle.std.specs.Cmp.{IsTotalOrder, IsEquivalence, IsPartialEquivalence, IsPartialOrder, partial_equiv_from_equiv, partial_order_from_agreeing_total}
use Rattle.std.specs.Cmp.Lexicographic.{slice_cmp}
use Rattle.std.specs.Ordering.{ordering_then, ordering_reverse, eq_by_cmp, is_eq}
use Rattle.ts_name.specs.Paths.{Name, Path, path_cmp, same_name, same_path}

-- ---- tests of equality

-- names that test equal are equal
pub same_name_equal : (x y : Name) → same_name x y ≡ true → x ≡ y
same_name_equal [] [] h = refl
same_name_equal [] (y ∷ ys) h = cc
same_name_equal (x ∷ xs) [] h = cc
same_name_equal (x ∷ xs) (y ∷ ys) h =
    let parts = and_parts (x == y) (same_name xs ys) h in
    let e = eqb-true x y parts.0 in
    let f = same_name_equal xs ys parts.1 in cc

-- a name tests equal to itself
pub same_name_itself : (x : Name) → same_name x x ≡ true
same_name_itself [] = refl
same_name_itself (x ∷ xs) = and_from (x == x) (same_name xs xs) (eq-eqb x x refl) (same_name_itself xs)

-- paths that test equal are equal
pub same_path_equal : (p q : Path) → same_path p q ≡ true → p ≡ q
same_path_equal [] [] h = refl
same_path_equal [] (y ∷ ys) h = cc
same_path_equal (x ∷ xs) [] h = cc
same_path_equal (x ∷ xs) (y ∷ ys) h =
    let parts = and_parts (same_name x y) (same_path xs ys) h in
    let e = same_name_equal x y parts.0 in
    let f = same_path_equal xs ys parts.1 in cc

-- a path tests equal to itself
pub same_path_itself : (p : Path) → same_path p p ≡ true
same_path_itself [] = refl
same_path_itself (x ∷ xs) = and_from (same_name x x) (same_path xs xs) (same_name_itself x) (same_path_itself xs)

-- paths that differ test so
pub same_path_differ : (p q : Path) → p ≢ q → same_path p q ≡ false
same_path_differ p q differ = false_from_ne_true _ (λ h. differ (same_path_equal p q h))

-- ---- the order is total

-- the order of paths is total
pub path_total : IsTotalOrder path_cmp
path_total = lists_total nat_list_cmp_total

then_Equal : (o r : Ordering) → ordering_then o r ≡ Equal → (o ≡ Equal) × (r ≡ Equal)
then_Equal Less r e = cc
then_Equal Equal r e = (refl, e)
then_Equal Greater r e = cc

-- names that tie are equal
pub tied_names : (x y : Name) → slice_cmp nat_cmp x y ≡ Equal → x ≡ y
tied_names x y e = exact_bytes x y e

-- paths that tie are equal
pub tied_paths : (p q : Path) → path_cmp p q ≡ Equal → p ≡ q
tied_paths [] [] e = refl
tied_paths [] (y ∷ ys) e = cc
tied_paths (x ∷ xs) [] e = cc
tied_paths (x ∷ xs) (y ∷ ys) e =
    let parts = then_Equal (slice_cmp nat_cmp x y) (path_cmp xs ys) e in ap₂ ◌∷◌ (tied_names x y parts.0) (tied_paths xs ys parts.1)

-- a path ties with itself
pub path_itself : (p : Path) → path_cmp p p ≡ Equal
path_itself p = tied_itself path_total p

-- the other way round
pub path_turned : (p q : Path) → path_cmp p q ≡ ordering_reverse (path_cmp q p)
path_turned p q = path_total.antisymm p q

pub is_eq_Equal : (o : Ordering) → is_eq o ≡ true → o ≡ Equal
is_eq_Equal Less e = cc
is_eq_Equal Equal e = refl
is_eq_Equal Greater e = cc

-- the test of paths answers as their order does
pub path_ties : (p q : Path) → same_path p q ≡ eq_by_cmp path_cmp p q
path_ties p q =
    same_from_decides {P = p ≡ q} (same_path p q) (eq_by_cmp path_cmp p q)
    (same_path_equal p q, λ e. subst (λ z. same_path p z ≡ true) e (same_path_itself p))
    (λ h. tied_paths p q (is_eq_Equal _ h), λ e. ap is_eq (subst (λ z. path_cmp p z ≡ Equal) e (path_itself p)))

-- and so does that of names
pub name_ties : (x y : Name) → same_name x y ≡ eq_by_cmp (slice_cmp nat_cmp) x y
name_ties x y =
    same_from_decides {P = x ≡ y} (same_name x y) (eq_by_cmp (slice_cmp nat_cmp) x y)
    (same_name_equal x y, λ e. subst (λ z. same_name x z ≡ true) e (same_name_itself x))
    (λ h. tied_names x y (is_eq_Equal _ h), λ e. ap is_eq (subst (λ z. slice_cmp nat_cmp x z ≡ Equal) e (tied_itself nat_list_cmp_total x)))

pub path_equivalence : IsEquivalence same_path
path_equivalence = subst (λ E. IsEquivalence E) (λ i p q. sym (path_ties p q) i) (eq_by_cmp_equiv path_total)

pub name_equivalence : IsEquivalence same_name
name_equivalence =
    subst (λ E. IsEquivalence E) (λ i x y. sym (name_ties x y) i) (eq_by_cmp_equiv nat_list_cmp_total)

pub path_partial_equivalence : IsPartialEquivalence same_path
path_partial_equivalence = partial_equiv_from_equiv path_equivalence

pub name_partial_equivalence : IsPartialEquivalence same_name
name_partial_equivalence = partial_equiv_from_equiv name_equivalence

pub path_partial_order : IsPartialOrder same_path (λ p q. Some (path_cmp p q))
path_partial_order = partial_order_from_agreeing_total path_cmp path_total (λ p q. refl) path_ties

pub name_partial_order : IsPartialOrder same_name (λ x y. Some (slice_cmp nat_cmp x y))
name_partial_order =
    partial_order_from_agreeing_total (slice_cmp nat_cmp) nat_list_cmp_total (λ x y. refl) name_ties

pub name_total : IsTotalOrder (slice_cmp nat_cmp)
name_total = nat_list_cmp_total
