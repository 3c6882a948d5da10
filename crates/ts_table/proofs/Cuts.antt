-- What stands when rows take the place of those below a path: a listing, whose tree is a graft.
use Rattle.std.proofs.Common.{◌≡◌, ◌≢◌, ℕ, ◌≤◌, ◌-◌, Bool, true, false, cond, [], ◌∷◌, ◌++◌, take, drop, Option, Some, None, refl, sym, ap, ◌∙◌, subst, inl, inr, arith, append_assoc, append-nil}
use Rattle.std.specs.List.{AllByRecursion}
use Rattle.ts_name.specs.Paths.{Name, Path, IsPath, IsAbove, IsBefore, same_path, below}
use Rattle.ts_model.specs.Trees.{Listing, listed, at, Ascend, IsListing, IsSubListing}
use Rattle.ts_model.specs.Runs.{graft}
use Rattle.ts_model.specs.declared.row.Content.{Content}
use Rattle.ts_model.specs.declared.row.Content.TheVariants.{Absent, Dir}
use Rattle.ts_model.specs.declared.row.Row.{Row}
use Rattle.ts_table.specs.Tables.{placed, IsPlace, IsCut}
use Rattle.ts_name.proofs.Prefixes.{below_gives, not_above, last_name, same_parent, snoc_not_empty}
use Rattle.ts_name.proofs.Order.{before_trans, before_itself, before_below, before_all_below, below_before}
use Rattle.ts_name.proofs.Utf8.{all_append, all_parts}
use Rattle.ts_name.proofs.Basics.{weaker}
use Rattle.std.proofs.lemmas.List.{append_cancel_left}
use Rattle.ts_table.proofs.Found.{whole}
use Rattle.ts_table.proofs.Rows.{ascend_left, ascend_right, AllBefore, ascend_join, ascend_across, listed_holds, listed_after, listed_before, placed_below, placed_ascend, graft_at_rows}
use Rattle.ts_model.proofs.Rows.{listed_here}
use Rattle.ts_model.proofs.Listings.{listed_none}

-- ---- parents

-- whatever is there has a directory as its parent
abbrev pub HasParents : {F : Type 0} → (Path → Content F) → Type 0
HasParents t = (p : Path) (name : Name) → t (p ++ name ∷ []) ≢ Absent → t p ≡ Dir

-- what a graft has, by what is left below its path
abbrev chosen : {F : Type 0} → Content F → (Path → Content F) → Option Path → Content F
chosen here content o = elim o [ None ↦ here | Some rest ↦ content rest ]

-- a graft in a place keeps that
pub graft_parents : {F : Type 0} (t content : Path → Content F) (p : Path) → HasParents t → HasParents content → IsPlace t p → HasParents (graft t p content)
graft_parents {F} t content p of_t of_content place q name there = go (below p q) refl
  where
    joined : (rest : Path) → below p q ≡ Some rest → (o : Option Path) → below p (q ++ name ∷ []) ≡ o → chosen (t (q ++ name ∷ [])) content o ≢ Absent → content rest ≡ Dir
    joined rest e None f k =
        let is : q ++ name ∷ [] ≡ p ++ (rest ++ name ∷ []) = ap (λ z. z ++ name ∷ []) (below_gives p q rest e) ∙ append_assoc p rest (name ∷ []) in
        absurd (not_above p (q ++ name ∷ []) f (rest ++ name ∷ [], is))
    joined rest e (Some more) f k =
        let is : q ++ name ∷ [] ≡ p ++ (rest ++ name ∷ []) = ap (λ z. z ++ name ∷ []) (below_gives p q rest e) ∙ append_assoc p rest (name ∷ []) in
        let same : more ≡ rest ++ name ∷ [] = append_cancel_left p more (rest ++ name ∷ []) (sym (below_gives p (q ++ name ∷ []) more f) ∙ is) in
        of_content rest name (λ gone. k (ap content same ∙ gone))

    apart : below p q ≡ None → (o : Option Path) → below p (q ++ name ∷ []) ≡ o → chosen (t (q ++ name ∷ [])) content o ≢ Absent → t q ≡ Dir
    apart e None f k = of_t q name k
    apart e (Some more) f k =
        let is = below_gives p (q ++ name ∷ []) more f in
        elim (last_name more) [
          | inl nothing ↦ place.parent q name (sym (is ∙ ap (λ z. p ++ z) nothing ∙ append-nil p))
          | inr h ↦ absurd (not_above p q e (h.0, same_parent q (p ++ h.0) name h.1 (is ∙ ap (λ z. p ++ z) h.2 ∙ sym (append_assoc p h.0 (h.1 ∷ [])))))
        ]

    go : (o : Option Path) → below p q ≡ o → chosen (t q) content o ≡ Dir
    go None e = apart e (below p (q ++ name ∷ [])) refl there
    go (Some rest) e = joined rest e (below p (q ++ name ∷ [])) refl there

-- ---- rows in the place of others

-- they are a listing
pub IsListing-placed : {F : Type 0} (p : Path) (front mid back part : Listing F) → IsListing (front ++ (mid ++ back)) → IsCut p front mid back → IsPlace (at (front ++ (mid ++ back))) p → IsSubListing part → AllByRecursion (λ row. IsPath row.path) (placed p part) → IsListing (front ++ (placed p part ++ back))
IsListing-placed {F} p front mid back part lists cut place of_part paths = record {
  ascending = ascend_join front (placed p part ++ back) (ascend_left front (mid ++ back) lists.ascending) below_up front_first;
  rows_are = all_append IsRow front (placed p part ++ back) (all_parts IsRow front (mid ++ back) lists.rows_are).0 (all_append IsRow (placed p part) back placed_are back_are);
  parents = parents;
}
  where
    IsRow : Row F → Type 0
    IsRow row = IsPath row.path × (row.path ≢ []) × (row.content ≢ Absent)

    back_up : Ascend back
    back_up = ascend_right mid back (ascend_right front (mid ++ back) lists.ascending)

    placed_first : AllBefore (placed p part) back
    placed_first =
        weaker (λ (row : Row F). IsAbove p row.path) (λ row. AllByRecursion (λ (other : Row F). IsBefore row.path other.path) back)
        (λ row above. weaker (λ (other : Row F). IsBefore p other.path × (¬ IsAbove p other.path)) (λ other. IsBefore row.path other.path)
        (λ other after. subst (λ z. IsBefore z other.path) (sym above.1) (below_before p above.0 other.path after.0 after.1)) back cut.after)
        (placed p part) (placed_below p part)

    below_up : Ascend (placed p part ++ back)
    below_up = ascend_join (placed p part) back (placed_ascend p part of_part.ascending) back_up placed_first

    front_first : AllBefore front (placed p part ++ back)
    front_first =
        weaker (λ (row : Row F). IsBefore row.path p) (λ row. AllByRecursion (λ (other : Row F). IsBefore row.path other.path) (placed p part ++ back))
        (λ row before. all_append (λ (other : Row F). IsBefore row.path other.path) (placed p part) back
        (weaker (λ (other : Row F). IsAbove p other.path) (λ other. IsBefore row.path other.path) (λ other above. subst (λ z. IsBefore row.path z) (sym above.1) (before_all_below row.path p above.0 before)) (placed p part) (placed_below p part))
        (weaker (λ (other : Row F). IsBefore p other.path × (¬ IsAbove p other.path)) (λ other. IsBefore row.path other.path) (λ other after. before_trans row.path p other.path before after.0) back cut.after))
        front cut.before

    back_are : AllByRecursion IsRow back
    back_are = (all_parts IsRow mid back (all_parts IsRow front (mid ++ back) lists.rows_are).1).1

    not_root : (rest : Path) → p ++ rest ≢ []
    not_root rest e = empty p rest place.not_root e
      where
        empty : (p rest : Path) → p ≢ [] → p ++ rest ≢ []
        empty [] rest some e = some refl
        empty (n ∷ p) rest some e = cc

    some_placed : (part : Listing F) → AllByRecursion (λ row. IsPath row.path × (row.content ≢ Absent)) part → AllByRecursion (λ row. IsPath row.path) (placed p part) → AllByRecursion IsRow (placed p part)
    some_placed [] are paths = tt
    some_placed (row ∷ rows) are paths = ((paths.0, not_root row.path, are.0.1), some_placed rows are.1 paths.1)

    placed_are : AllByRecursion IsRow (placed p part)
    placed_are = some_placed part of_part.rows_are paths

    parents : HasParents (at (front ++ (placed p part ++ back)))
    parents = subst HasParents (sym (graft_at_rows p front mid back part place.not_root cut)) (graft_parents (at (front ++ (mid ++ back))) (listed part) p lists.parents of_part.parents place)

-- ---- one row after all others

-- a path after all rows cuts them at their end
one_row_cut : {F : Type 0} (rows : Listing F) (p : Path) → AllByRecursion (λ other. IsBefore other.path p) rows → IsCut p rows [] []
one_row_cut rows p before = record { before = before; below = tt; after = tt }

-- one content alone is what is at a path
one_row_sub : {F : Type 0} (content : Content F) → content ≢ Absent → IsPath [] → IsSubListing (record { path = []; content = content } ∷ [])
one_row_sub {F} content some root = record {
  ascending = tt;
  rows_are = ((root, some), tt);
  parents = λ q name there. absurd (there (listed_none (record { path = []; content = content } ∷ []) (q ++ name ∷ []) ((λ e. snoc_not_empty q name (sym e)), tt)));
}

-- the root is a path
pub IsPath-root : IsPath []
IsPath-root = record { names = tt; depth = omega arith; size = omega arith }

-- a row after all others, with a directory as its parent, may come next
pub IsListing-push : {F : Type 0} (rows : Listing F) (row : Row F) → IsListing rows → IsPath row.path → row.content ≢ Absent → AllByRecursion (λ other. IsBefore other.path row.path) rows → IsPlace (at rows) row.path → IsListing (rows ++ row ∷ [])
IsListing-push {F} rows row lists path some before place =
    subst (λ z. IsListing (rows ++ z ∷ [])) is
    (IsListing-placed row.path rows [] [] (record { path = []; content = row.content } ∷ []) (subst (λ z. IsListing z) (sym (append-nil rows)) lists) (one_row_cut rows row.path before) (subst (λ z. IsPlace (at z) row.path) (sym (append-nil rows)) place) (one_row_sub row.content some IsPath-root) (subst (λ z. IsPath z) (sym (append-nil row.path)) path, tt))
  where
    is : record { path = row.path ++ []; content = row.content } ≡ row
    is = λ i. record { path = append-nil row.path i; content = row.content }

-- what a row that comes next has
pub record IsNext {F : Type 0} (rows : Listing F) (p : Path) : Type 0 where
  pub before : AllByRecursion (λ other. IsBefore other.path p) rows
  pub place : IsPlace (at rows) p

-- a listing without its last row says the same of other paths
pub at_front : {F : Type 0} (rows : Listing F) (row : Row F) (q : Path) → row.path ≢ q → at (rows ++ row ∷ []) q ≡ at rows q
at_front rows row [] differ = refl
at_front rows row (n ∷ q) differ = listed_before rows (row ∷ []) (n ∷ q) (differ, tt)

-- a path is not its own parent
longer : (p : Path) (name : Name) → p ++ name ∷ [] ≢ p
longer [] name e = cc
longer (n ∷ p) name e = longer p name cc

-- and only such a row may
pub IsNext-from_push : {F : Type 0} (rows : Listing F) (row : Row F) → IsListing (rows ++ row ∷ []) → IsNext rows row.path
IsNext-from_push {F} rows row lists = record {
  before = weaker (λ (other : Row F). IsBefore other.path row.path × Unit {0}) (λ other. IsBefore other.path row.path) (λ other h. h.0) rows (ascend_across rows (row ∷ []) lists.ascending);
  place = record {
    not_root = is_row.0.1;
    parent = parent;
  };
}
  where
    is_row : (IsPath row.path × (row.path ≢ []) × (row.content ≢ Absent)) × Unit {0}
    is_row = (all_parts (λ (other : Row F). IsPath other.path × (other.path ≢ []) × (other.content ≢ Absent)) rows (row ∷ []) lists.rows_are).1

    before : AllByRecursion (λ other. IsBefore other.path row.path) rows
    before = weaker (λ (other : Row F). IsBefore other.path row.path × Unit {0}) (λ other. IsBefore other.path row.path) (λ other h. h.0) rows (ascend_across rows (row ∷ []) lists.ascending)

    there : at (rows ++ row ∷ []) row.path ≢ Absent
    there gone = is_row.0.2 (here row.path refl is_row.0.1 gone)
      where
        differ : AllByRecursion (λ other. other.path ≢ row.path) rows
        differ = weaker (λ (other : Row F). IsBefore other.path row.path) (λ other. other.path ≢ row.path) (λ other early e. before_itself row.path (subst (λ z. IsBefore z row.path) e early)) rows before

        here : (p : Path) → row.path ≡ p → p ≢ [] → at (rows ++ row ∷ []) p ≡ Absent → row.content ≡ Absent
        here [] is some e = absurd (some refl)
        here (n ∷ p) is some e =
            sym (listed_here row []) ∙ sym (listed_after rows (row ∷ []) row.path differ) ∙ ap (listed (rows ++ row ∷ [])) is ∙ e

    parent : (parent : Path) (name : Name) → row.path ≡ parent ++ name ∷ [] → at rows parent ≡ Dir
    parent q name is =
        sym (at_front rows row q (λ e. longer q name (sym is ∙ e)))
        ∙ lists.parents q name (λ gone. there (ap (at (rows ++ row ∷ [])) is ∙ gone))

-- ---- the front of a listing

-- what a front lists the whole lists
listed_stays : {F : Type 0} (xs ys : Listing F) (p : Path) → listed xs p ≢ Absent → listed (xs ++ ys) p ≡ listed xs p
listed_stays [] ys p there = absurd (there refl)
listed_stays {F} (x ∷ xs) ys p there = go (same_path x.path p) there (listed_stays xs ys p)
  where
    go : (b : Bool) → cond b x.content (listed xs p) ≢ Absent → (listed xs p ≢ Absent → listed (xs ++ ys) p ≡ listed xs p) → cond b x.content (listed (xs ++ ys) p) ≡ cond b x.content (listed xs p)
    go true k more = refl
    go false k more = more k

-- is one
pub IsListing-front : {F : Type 0} (xs ys : Listing F) → IsListing (xs ++ ys) → IsListing xs
IsListing-front {F} xs ys lists = record {
  ascending = ascend_left xs ys lists.ascending;
  rows_are = (all_parts (λ (row : Row F). IsPath row.path × (row.path ≢ []) × (row.content ≢ Absent)) xs ys lists.rows_are).0;
  parents = parents;
}
  where
    from : (p : Path) (name : Name) (q : Path) → q ≡ p ++ name ∷ [] → at xs q ≢ Absent → at xs p ≡ Dir
    from p name [] is there = absurd (snoc_not_empty p name (sym is))
    from [] name (n ∷ q) is there = refl
    from (m ∷ p) name (n ∷ q) is there =
        let later : AllByRecursion (λ (row : Row F). IsBefore (n ∷ q) row.path) ys = listed_holds (λ z. AllByRecursion (λ (row : Row F). IsBefore z row.path) ys) xs (n ∷ q) (ascend_across xs ys lists.ascending) there in
        let under : IsBefore (m ∷ p) (n ∷ q) = subst (λ z. IsBefore (m ∷ p) z) (sym is) (before_below (m ∷ p) name []) in
        sym (listed_before xs ys (m ∷ p) (weaker (λ (row : Row F). IsBefore (n ∷ q) row.path) (λ row. row.path ≢ m ∷ p) (λ row after e. before_itself (n ∷ q) (before_trans (n ∷ q) (m ∷ p) (n ∷ q) (subst (λ z. IsBefore (n ∷ q) z) e after) under)) ys later))
        ∙ lists.parents (m ∷ p) name (λ gone. there (sym (listed_stays xs ys (n ∷ q) there) ∙ ap (at (xs ++ ys)) is ∙ gone))

    parents : HasParents (at xs)
    parents p name there = from p name (p ++ name ∷ []) refl there

-- ---- rows put between the bounds of a path

pub record IsReplaced {F : Type 0} (rows new : Listing F) (p : Path) (part : Listing F) : Type 0 where
  pub listing : IsListing new
  pub tree : at new ≡ graft (at rows) p (listed part)

-- they are a listing, of the graft
pub replaced : {F : Type 0} (rows new : Listing F) (p : Path) (part : Listing F) (start end : ℕ) → IsListing rows → start ≤ end → IsCut p (take start rows) (take (end - start) (drop start rows)) (drop end rows) → IsPlace (at rows) p → IsSubListing part → AllByRecursion (λ row. IsPath row.path) (placed p part) → new ≡ take start rows ++ (placed p part ++ drop end rows) → IsReplaced rows new p part
replaced {F} rows new p part start end lists le cut place of_part paths is =
    let parts = whole rows start end le in
    record {
      listing = subst (λ z. IsListing z) (sym is) (IsListing-placed p (take start rows) (take (end - start) (drop start rows)) (drop end rows) part (subst (λ z. IsListing z) parts lists) cut (subst (λ z. IsPlace (at z) p) parts place) of_part paths);
      tree = ap (λ z. at z) is ∙ graft_at_rows p (take start rows) (take (end - start) (drop start rows)) (drop end rows) part place.not_root cut ∙ ap (λ z. graft (at z) p (listed part)) (sym parts);
    }
