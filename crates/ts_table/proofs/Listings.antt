-- Listings: what a listing has one of, the rows below a path, and when rows may come next.
use Rattle.std.proofs.Common.{◌≡◌, ◌≢◌, ℕ, zero, suc, ◌<◌, Bool, true, false, cond, List, [], ◌∷◌, ◌++◌, length, get_or, slice_get, Option, Some, None, refl, sym, ap, ap₂, ◌∙◌, subst, arith, append-nil}
use Rattle.std.proofs.lemmas.Bool.{cond-true, cond-false}
use Rattle.std.specs.List.{AllByRecursion, filter}
use Rattle.ts_name.specs.Paths.{Path, IsPath, IsAbove, IsBefore, same_path, below}
use Rattle.ts_model.specs.Trees.{Listing, listed, at, Ascend, IsListing, sub}
use Rattle.ts_model.specs.declared.row.Content.TheVariants.{Absent}
use Rattle.ts_model.specs.declared.row.Row.{Row}
use Rattle.ts_table.specs.Tables.{is_above, rows_below}
use Rattle.ts_name.specs.Laws.{same_path_differ}
use Rattle.ts_name.proofs.Prefixes.{below_append, below_gives, decide_above}
use Rattle.ts_name.proofs.Order.{before_itself}
use Rattle.ts_name.proofs.Basics.{by_each, at_each, weaker, all_at}
use Rattle.ts_table.proofs.Rows.{ascend_cons, ascend_pair}
use Rattle.ts_model.proofs.Rows.{listed_here, ascend_rest, at_listed}
use Rattle.std.proofs.lemmas.Option.{slice_get_within, get_or_from_slice_get}
use Rattle.ts_model.proofs.Listings.{ascend_first, listed_none, one_listed, root_not_listed}

-- ---- one listing

-- ---- the rows below a path

-- the test holds where a path is above
pub is_above_yes : (p q : Path) → IsAbove p q → is_above p q ≡ true
is_above_yes p q h = go (below p q) (ap (below p) h.1 ∙ below_append p h.0)
  where
    go : (o : Option Path) → o ≡ Some h.0 → elim o [ None ↦ false | Some rest ↦ true ] ≡ true
    go None e = cc
    go (Some rest) e = refl

-- and only there
pub is_above_gives : (p q : Path) → is_above p q ≡ true → IsAbove p q
is_above_gives p q h = go (below p q) refl h
  where
    go : (o : Option Path) → below p q ≡ o → elim o [ None ↦ false | Some rest ↦ true ] ≡ true → IsAbove p q
    go None e f = cc
    go (Some rest) e f = (rest, below_gives p q rest e)

-- it fails where a path is not above
pub is_above_no : (p q : Path) → ¬ IsAbove p q → is_above p q ≡ false
is_above_no p q off = go (is_above p q) refl
  where
    go : (b : Bool) → is_above p q ≡ b → is_above p q ≡ false
    go true e = absurd (off (is_above_gives p q e))
    go false e = e

-- and only there
pub not_above_gives : (p q : Path) → is_above p q ≡ false → ¬ IsAbove p q
not_above_gives p q e h = let f = is_above_yes p q h in cc

-- a filter that no element passes keeps none
filter_none : {A : Type 0} (test : A → Bool) (xs : List A) → AllByRecursion (λ x. test x ≡ false) xs → filter test xs ≡ []
filter_none test [] h = refl
filter_none test (x ∷ xs) h = cond-false _ _ _ h.0 ∙ filter_none test xs h.1

-- a filter that each element passes keeps all
filter_each : {A : Type 0} (test : A → Bool) (xs : List A) → AllByRecursion (λ x. test x ≡ true) xs → filter test xs ≡ xs
filter_each test [] h = refl
filter_each test (x ∷ xs) h = cond-true _ _ _ h.0 ∙ ap (λ z. x ∷ z) (filter_each test xs h.1)

-- a filter goes through the parts of a list
filter_append : {A : Type 0} (test : A → Bool) (xs ys : List A) → filter test (xs ++ ys) ≡ filter test xs ++ filter test ys
filter_append test [] ys = refl
filter_append test (x ∷ xs) ys = go (test x) (filter_append test xs ys)
  where
    go : (b : Bool) → filter test (xs ++ ys) ≡ filter test xs ++ filter test ys → cond b (x ∷ filter test (xs ++ ys)) (filter test (xs ++ ys)) ≡ cond b (x ∷ filter test xs) (filter test xs) ++ filter test ys
    go true e = ap (λ z. x ∷ z) e
    go false e = e

-- what holds of each element holds of those that a filter keeps
pub filter_all : {A : Type 0} (P : A → Type 0) (test : A → Bool) (xs : List A) → AllByRecursion P xs → AllByRecursion P (filter test xs)
filter_all P test [] h = tt
filter_all P test (x ∷ xs) h = go (test x) (filter_all P test xs h.1)
  where
    go : (b : Bool) → AllByRecursion P (filter test xs) → AllByRecursion P (cond b (x ∷ filter test xs) (filter test xs))
    go true more = (h.0, more)
    go false more = more

-- what a filter keeps ascends
pub filter_ascend : {F : Type 0} (test : Row F → Bool) (rows : Listing F) → Ascend rows → Ascend (filter test rows)
filter_ascend test [] h = tt
filter_ascend {F} test (row ∷ rows) h = go (test row) (filter_ascend test rows (ascend_rest row rows h))
  where
    go : (b : Bool) → Ascend (filter test rows) → Ascend (cond b (row ∷ filter test rows) (filter test rows))
    go true more = ascend_cons row (filter test rows) (filter_all (λ (other : Row F). IsBefore row.path other.path) test rows (ascend_first row rows h)) more
    go false more = more

-- the middle of a cut
pub rows_below_mid : {F : Type 0} (p : Path) (front mid back : Listing F) → AllByRecursion (λ row. ¬ IsAbove p row.path) front → AllByRecursion (λ row. IsAbove p row.path) mid → AllByRecursion (λ row. ¬ IsAbove p row.path) back → rows_below p (front ++ (mid ++ back)) ≡ mid
rows_below_mid {F} p front mid back off_front above off_back =
    filter_append (λ (row : Row F). is_above p row.path) front (mid ++ back) ∙ ap₂ ◌++◌ (filter_none (λ (row : Row F). is_above p row.path) front (none front off_front)) (filter_append (λ (row : Row F). is_above p row.path) mid back ∙ ap₂ ◌++◌ each (filter_none (λ (row : Row F). is_above p row.path) back (none back off_back)) ∙ append-nil mid)
  where
    none : (rows : Listing F) → AllByRecursion (λ row. ¬ IsAbove p row.path) rows → AllByRecursion (λ row. is_above p row.path ≡ false) rows
    none rows all = weaker (λ (row : Row F). ¬ IsAbove p row.path) (λ row. is_above p row.path ≡ false) (λ row off. is_above_no p row.path off) rows all

    each : filter (λ (row : Row F). is_above p row.path) mid ≡ mid
    each = filter_each (λ (row : Row F). is_above p row.path) mid (weaker (λ (row : Row F). IsAbove p row.path) (λ row. is_above p row.path ≡ true) (λ row h. is_above_yes p row.path h) mid above)

-- they list what is listed below it
pub listed_below : {F : Type 0} (p q : Path) (rows : Listing F) → IsAbove p q → listed (rows_below p rows) q ≡ listed rows q
listed_below p q [] above = refl
listed_below {F} p q (row ∷ rows) above = go (is_above p row.path) refl (listed_below p q rows above)
  where
    go : (b : Bool) → is_above p row.path ≡ b → listed (rows_below p rows) q ≡ listed rows q → listed (cond b (row ∷ rows_below p rows) (rows_below p rows)) q ≡ listed (row ∷ rows) q
    go true e more = ap (cond (same_path row.path q) row.content) more
    go false e more =
        let differ : row.path ≢ q = λ same. not_above_gives p row.path e (subst (λ z. IsAbove p z) (sym same) above) in
        more ∙ sym (cond-false _ _ _ (same_path_differ row.path q differ))

-- and nothing else
pub not_listed_below : {F : Type 0} (p q : Path) (rows : Listing F) → ¬ IsAbove p q → listed (rows_below p rows) q ≡ Absent
not_listed_below {F} p q rows off = listed_none (rows_below p rows) q (differ rows)
  where
    differ : (rows : Listing F) → AllByRecursion (λ row. row.path ≢ q) (rows_below p rows)
    differ [] = tt
    differ (row ∷ rows) = go (is_above p row.path) refl (differ rows)
      where
        go : (b : Bool) → is_above p row.path ≡ b → AllByRecursion (λ other. other.path ≢ q) (rows_below p rows) → AllByRecursion (λ other. other.path ≢ q) (cond b (row ∷ rows_below p rows) (rows_below p rows))
        go true e more = ((λ same. off (subst (λ z. IsAbove p z) same (is_above_gives p row.path e))), more)
        go false e more = more

-- two trees are the same from a path down exactly where they have the same rows there
pub same_rows_below : {F : Type 0} (xs ys : Listing F) (p : Path) → IsListing xs → IsListing ys → sub (at xs) p ≡ sub (at ys) p → rows_below p xs ≡ rows_below p ys
same_rows_below {F} xs ys p lists_x lists_y same =
    one_listed (rows_below p xs) (rows_below p ys) (filter_ascend _ xs lists_x.ascending) (filter_ascend _ ys lists_y.ascending) (there xs lists_x) (there ys lists_y) everywhere
  where
    there : (rows : Listing F) → IsListing rows → AllByRecursion (λ row. row.content ≢ Absent) (rows_below p rows)
    there rows lists = filter_all (λ (row : Row F). row.content ≢ Absent) (λ row. is_above p row.path) rows (weaker (λ (row : Row F). IsPath row.path × (row.path ≢ []) × (row.content ≢ Absent)) (λ row. row.content ≢ Absent) (λ row h. h.2) rows lists.rows_are)

    at_listed : (q : Path) → at xs q ≡ at ys q → listed xs q ≡ listed ys q
    at_listed [] e = root_not_listed xs lists_x ∙ sym (root_not_listed ys lists_y)
    at_listed (n ∷ q) e = e

    everywhere : (q : Path) → listed (rows_below p xs) q ≡ listed (rows_below p ys) q
    everywhere q = elim (decide_above p q) [
      | yes above ↦ listed_below p q xs above ∙ at_listed q (ap (at xs) above.1 ∙ at_each same above.0 ∙ ap (at ys) (sym above.1)) ∙ sym (listed_below p q ys above)
      | no off ↦ not_listed_below p q xs off ∙ sym (not_listed_below p q ys off)
    ]

-- and the same rows there make them the same
pub same_sub : {F : Type 0} (xs ys : Listing F) (p : Path) → rows_below p xs ≡ rows_below p ys → sub (at xs) p ≡ sub (at ys) p
same_sub {F} xs ys p e = by_each _ _ (λ rest. at_same (p ++ rest) (rest, refl))
  where
    at_same : (q : Path) → IsAbove p q → at xs q ≡ at ys q
    at_same [] above = refl
    at_same (n ∷ q) above = sym (listed_below p (n ∷ q) xs above) ∙ ap (λ rows. listed rows (n ∷ q)) e ∙ listed_below p (n ∷ q) ys above

-- ---- what is at a path

-- the row at an index says what is listed at its path
pub listed_at : {F : Type 0} (rows : Listing F) (i : ℕ) (d : Row F) → Ascend rows → i < length rows → listed rows (get_or rows i d).path ≡ (get_or rows i d).content
listed_at [] i d up under = absurd (omega arith)
listed_at (row ∷ rows) zero d up under = listed_here row rows
listed_at {F} (row ∷ rows) (suc i) d up under =
    let before : IsBefore row.path (get_or rows i d).path = ascend_pair (row ∷ rows) up 0 (suc i) d (omega arith) under in
    cond-false _ _ _ (same_path_differ row.path (get_or rows i d).path (λ e. before_itself row.path (subst (λ z. IsBefore row.path z) (sym e) before)))
    ∙ listed_at rows i d (ascend_rest row rows up) (omega arith)

-- and a row of a tree says what is at its path
pub at_row : {F : Type 0} (rows : Listing F) → IsListing rows → (k : ℕ) (row : Row F) → slice_get rows k ≡ Some row → at rows row.path ≡ row.content
at_row {F} rows lists k row is =
    let within = slice_get_within rows k row is in
    let here = get_or_from_slice_get rows k row row is in
    let below_root = (all_at (λ (row : Row F). IsPath row.path × (row.path ≢ []) × (row.content ≢ Absent)) rows lists.rows_are k row is).1 in
    at_listed rows row.path below_root ∙ subst (λ (z : Row F). listed rows z.path ≡ z.content) here (listed_at rows k row lists.ascending within)
