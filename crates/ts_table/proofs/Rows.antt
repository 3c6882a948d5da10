-- Rows in path order, and what is listed.
use Rattle.std.proofs.Common.{◌≡◌, ◌≢◌, ℕ, zero, suc, ◌<◌, ◌≤◌, ◌+◌, Bool, true, false, cond, List, [], ◌∷◌, ◌++◌, length, get_or, take, drop, Option, Some, None, refl, sym, ap, ◌∙◌, subst, arith}
use Rattle.std.specs.List.{AllByRecursion, AllWithin}
use Rattle.std.proofs.lemmas.List.Elements.{recursion_from_All}
use Rattle.std.proofs.lemmas.List.{get_or-take, get_or-drop, length-take-le, length-drop, append_cancel_left}
use Rattle.ts_name.specs.Paths.{Path, IsAbove, IsBefore, same_path, below}
use Rattle.ts_model.specs.Trees.{Listing, listed, at, Ascend}
use Rattle.ts_model.specs.Runs.{graft}
use Rattle.ts_model.specs.declared.row.Content.TheVariants.{Absent}
use Rattle.ts_model.specs.declared.row.Row.{Row}
use Rattle.ts_table.specs.Tables.{placed, IsCut}
use Rattle.ts_name.proofs.Utf8.{all_append, all_parts}
use Rattle.ts_name.proofs.Basics.{by_each, weaker}
use Rattle.ts_name.specs.Laws.{same_path_equal, same_path_itself, same_path_differ}
use Rattle.ts_name.proofs.Prefixes.{below_gives, not_above}
use Rattle.ts_name.proofs.Order.{cmp_below, before_not_below}
use Rattle.ts_model.proofs.Rows.{ascend_rest}
use Rattle.ts_model.proofs.Listings.{ascend_first, listed_none}

-- ---- the two parts of a search

-- what a search by halving says of the two parts
pub all_before : {A : Type 0} (P : A → Type 0) (xs : List A) (n : ℕ) → n ≤ length xs → AllWithin P xs 0 n → AllByRecursion P (take n xs)
all_before P xs n short h = recursion_from_All P (take n xs) (λ k d below. let cut = length-take-le n xs short in let under : k < n = omega arith in rw get_or-take (h k d (omega arith) under))

-- of the second part
pub all_from : {A : Type 0} (P : A → Type 0) (xs : List A) (n : ℕ) → n ≤ length xs → AllWithin P xs n (length xs) → AllByRecursion P (drop n xs)
all_from P xs n short h = recursion_from_All P (drop n xs) (λ k d below. let cut = length-drop n xs in rw get_or-drop (h (n + k) d (omega arith) (omega arith)))

-- ---- what ascends

-- and rows ascend after one that comes before each
pub ascend_cons : {F : Type 0} (row : Row F) (rows : Listing F) → AllByRecursion (λ other. IsBefore row.path other.path) rows → Ascend rows → Ascend (row ∷ rows)
ascend_cons row [] h k = tt
ascend_cons row (next ∷ rows) h k = (h.0, k)

-- a front ascends
pub ascend_left : {F : Type 0} (xs ys : Listing F) → Ascend (xs ++ ys) → Ascend xs
ascend_left [] ys h = tt
ascend_left {F} (x ∷ xs) ys h = ascend_cons x xs (all_parts (λ (other : Row F). IsBefore x.path other.path) xs ys (ascend_first x (xs ++ ys) h)).0 (ascend_left xs ys (ascend_rest x (xs ++ ys) h))

-- and so does what follows
pub ascend_right : {F : Type 0} (xs ys : Listing F) → Ascend (xs ++ ys) → Ascend ys
ascend_right [] ys h = h
ascend_right (x ∷ xs) ys h = ascend_right xs ys (ascend_rest x (xs ++ ys) h)

-- each row comes before each other
abbrev pub AllBefore : {F : Type 0} → Listing F → Listing F → Type 0
AllBefore xs ys = AllByRecursion (λ x. AllByRecursion (λ y. IsBefore x.path y.path) ys) xs

-- two parts ascend together where the first comes before the second
pub ascend_join : {F : Type 0} (xs ys : Listing F) → Ascend xs → Ascend ys → AllBefore xs ys → Ascend (xs ++ ys)
ascend_join [] ys h k across = k
ascend_join {F} (x ∷ xs) ys h k across =
    ascend_cons x (xs ++ ys) (all_append (λ (other : Row F). IsBefore x.path other.path) xs ys (ascend_first x xs h) across.0)
    (ascend_join xs ys (ascend_rest x xs h) k across.1)

-- as it does where they ascend together
pub ascend_across : {F : Type 0} (xs ys : Listing F) → Ascend (xs ++ ys) → AllBefore xs ys
ascend_across [] ys h = tt
ascend_across {F} (x ∷ xs) ys h = ((all_parts (λ (other : Row F). IsBefore x.path other.path) xs ys (ascend_first x (xs ++ ys) h)).1, ascend_across xs ys (ascend_rest x (xs ++ ys) h))

-- a row comes before those at greater indexes
pub ascend_pair : {F : Type 0} (rows : Listing F) → Ascend rows → (i j : ℕ) (d : Row F) → i < j → j < length rows → IsBefore (get_or rows i d).path (get_or rows j d).path
ascend_pair [] h i j d lt under = absurd (omega arith)
ascend_pair (row ∷ rows) h i zero d lt under = absurd (omega arith)
ascend_pair {F} (row ∷ rows) h zero (suc j) d lt under = first rows j (omega arith) (ascend_first row rows h)
  where
    first : (more : Listing F) (k : ℕ) → k < length more → AllByRecursion (λ other. IsBefore row.path other.path) more → IsBefore row.path (get_or more k d).path
    first [] k below all = absurd (omega arith)
    first (next ∷ more) zero below all = all.0
    first (next ∷ more) (suc k) below all = first more k (omega arith) all.1
ascend_pair (row ∷ rows) h (suc i) (suc j) d lt under = ascend_pair rows (ascend_rest row rows h) i j d (omega arith) (omega arith)

-- ---- what is listed

-- what is listed is of a row, so what holds of each row's path holds of its path
pub listed_holds : {F : Type 0} (P : Path → Type 0) (rows : Listing F) (p : Path) → AllByRecursion (λ row. P row.path) rows → listed rows p ≢ Absent → P p
listed_holds P [] p all h = absurd (h refl)
listed_holds {F} P (row ∷ rows) p all h = go (same_path row.path p) refl h (listed_holds P rows p all.1)
  where
    go : (b : Bool) → same_path row.path p ≡ b → cond b row.content (listed rows p) ≢ Absent → (listed rows p ≢ Absent → P p) → P p
    go true is k later = subst P (same_path_equal row.path p is) all.0
    go false is k later = later k

-- rows of other paths don't count
pub listed_after : {F : Type 0} (xs ys : Listing F) (p : Path) → AllByRecursion (λ row. row.path ≢ p) xs → listed (xs ++ ys) p ≡ listed ys p
listed_after [] ys p all = refl
listed_after (x ∷ xs) ys p all = rw (same_path_differ x.path p all.0) (listed_after xs ys p all.1)

-- what is listed after a front is decided by the front, and else by what follows
pub listed_append : {F : Type 0} (xs ys zs : Listing F) (p : Path) → listed ys p ≡ listed zs p → listed (xs ++ ys) p ≡ listed (xs ++ zs) p
listed_append [] ys zs p e = e
listed_append (x ∷ xs) ys zs p e = ap (cond (same_path x.path p) x.content) (listed_append xs ys zs p e)

-- nothing at the end changes nothing
append_none : {F : Type 0} (xs : Listing F) → xs ++ [] ≡ xs
append_none [] = refl
append_none (x ∷ xs) = ap (λ z. x ∷ z) (append_none xs)

-- rows of other paths at the end do not count
pub listed_before : {F : Type 0} (xs ys : Listing F) (p : Path) → AllByRecursion (λ row. row.path ≢ p) ys → listed (xs ++ ys) p ≡ listed xs p
listed_before xs ys p all = listed_append xs ys [] p (listed_none ys p all) ∙ ap (λ z. listed z p) (append_none xs)

-- rows that are placed at a path list there what they list by themselves
pub listed_placed : {F : Type 0} (p : Path) (rows : Listing F) (rest : Path) → listed (placed p rows) (p ++ rest) ≡ listed rows rest
listed_placed p [] rest = refl
listed_placed {F} p (row ∷ rows) rest = go (same_path row.path rest) refl (listed_placed p rows rest)
  where
    go : (b : Bool) → same_path row.path rest ≡ b → listed (placed p rows) (p ++ rest) ≡ listed rows rest → cond (same_path (p ++ row.path) (p ++ rest)) row.content (listed (placed p rows) (p ++ rest)) ≡ cond b row.content (listed rows rest)
    go true is e = let same : p ++ row.path ≡ p ++ rest = ap (λ z. p ++ z) (same_path_equal row.path rest is) in ap (λ z. cond (same_path (p ++ row.path) z) row.content (listed (placed p rows) (p ++ rest))) (sym same) ∙ ap (λ b. cond b row.content (listed (placed p rows) (p ++ rest))) (same_path_itself (p ++ row.path))
    go false is e = ap (λ b. cond b row.content (listed (placed p rows) (p ++ rest))) (same_path_differ (p ++ row.path) (p ++ rest) (λ same. let f = append_cancel_left p row.path rest same in let g : same_path row.path rest ≡ true = ap (λ z. same_path row.path z) (sym f) ∙ same_path_itself row.path in cc)) ∙ e

-- they are all below it
pub placed_below : {F : Type 0} (p : Path) (rows : Listing F) → AllByRecursion (λ row. IsAbove p row.path) (placed p rows)
placed_below p [] = tt
placed_below p (row ∷ rows) = ((row.path, refl), placed_below p rows)

-- and in order
pub placed_ascend : {F : Type 0} (p : Path) (rows : Listing F) → Ascend rows → Ascend (placed p rows)
placed_ascend p [] h = tt
placed_ascend p (row ∷ []) h = tt
placed_ascend p (row ∷ next ∷ rows) h = (cmp_below p row.path next.path ∙ h.0, placed_ascend p (next ∷ rows) h.1)

-- ---- three parts of a listing: before a path, at or below it, and after all that

-- nothing outside is below the path
pub front_off : {F : Type 0} (p q : Path) (front : Listing F) → AllByRecursion (λ row. IsBefore row.path p) front → IsAbove p q → AllByRecursion (λ row. row.path ≢ q) front
front_off {F} p q front h above = weaker (λ (row : Row F). IsBefore row.path p) (λ row. row.path ≢ q) (λ row before e. before_not_below row.path p before (subst (λ z. IsAbove p z) (sym e) above)) front h

-- nor is anything after it
pub back_off : {F : Type 0} (p q : Path) (back : Listing F) → AllByRecursion (λ row. IsBefore p row.path × (¬ IsAbove p row.path)) back → IsAbove p q → AllByRecursion (λ row. row.path ≢ q) back
back_off {F} p q back h above = weaker (λ (row : Row F). IsBefore p row.path × (¬ IsAbove p row.path)) (λ row. row.path ≢ q) (λ row after e. after.1 (subst (λ z. IsAbove p z) (sym e) above)) back h

-- and what stands below the path is nowhere else
pub mid_off : {F : Type 0} (p q : Path) (mid : Listing F) → AllByRecursion (λ row. IsAbove p row.path) mid → ¬ IsAbove p q → AllByRecursion (λ row. row.path ≢ q) mid
mid_off {F} p q mid h off = weaker (λ (row : Row F). IsAbove p row.path) (λ row. row.path ≢ q) (λ row above e. off (subst (λ z. IsAbove p z) e above)) mid h

-- rows in the place of those below a path are a graft there
pub graft_listed : {F : Type 0} (p : Path) (front mid back part : Listing F) → IsCut p front mid back → (q : Path) → listed (front ++ (placed p part ++ back)) q ≡ graft (listed (front ++ (mid ++ back))) p (listed part) q
graft_listed {F} p front mid back part cut q = go (below p q) refl
  where
    go : (o : Option Path) → below p q ≡ o → listed (front ++ (placed p part ++ back)) q ≡ elim o [ None ↦ listed (front ++ (mid ++ back)) q | Some rest ↦ listed part rest ]
    go None e =
        let off = not_above p q e in
        listed_append front (placed p part ++ back) (mid ++ back) q
        (listed_after (placed p part) back q (mid_off p q (placed p part) (placed_below p part) off)
        ∙ sym (listed_after mid back q (mid_off p q mid cut.below off)))
    go (Some rest) e =
        let is = below_gives p q rest e in
        let above : IsAbove p q = (rest, is) in
        listed_after front (placed p part ++ back) q (front_off p q front cut.before above)
        ∙ listed_before (placed p part) back q (back_off p q back cut.after above)
        ∙ ap (listed (placed p part)) is ∙ listed_placed p part rest

-- the same of the whole tree
pub graft_at_rows : {F : Type 0} (p : Path) (front mid back part : Listing F) → p ≢ [] → IsCut p front mid back → at (front ++ (placed p part ++ back)) ≡ graft (at (front ++ (mid ++ back))) p (listed part)
graft_at_rows {F} p front mid back part some cut = by_each _ _ (everywhere p some (graft_listed p front mid back part cut))
  where
    everywhere : (p : Path) → p ≢ [] → ((q : Path) → listed (front ++ (placed p part ++ back)) q ≡ graft (listed (front ++ (mid ++ back))) p (listed part) q) → (q : Path) → at (front ++ (placed p part ++ back)) q ≡ graft (at (front ++ (mid ++ back))) p (listed part) q
    everywhere [] some h q = absurd (some refl)
    everywhere (n ∷ p) some h [] = refl
    everywhere (n ∷ p) some h (m ∷ q) = h (m ∷ q)
