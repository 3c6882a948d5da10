-- Many edits in one pass: what the pass keeps, and that the edits are made.
use Rattle.std.proofs.Common.{◌≡◌, Bool, true, false, cond, List, [], ◌∷◌, ◌++◌, ℕ, ◌+◌, length, sum_by, refl, sym, ap, ◌∙◌, subst, inl, inr, append_assoc, append-nil, map, arith}
use Rattle.std.proofs.lemmas.List.{map-append}
use Rattle.std.proofs.lemmas.List.Sums.{sum_by_push}
use Rattle.std.proofs.lemmas.Bool.{false≢true, false_from_ne_true}
use Rattle.std.specs.List.{AllByRecursion}
use Rattle.std.specs.Ordering.{is_lt}
use Rattle.ts_name.specs.Paths.{Path, IsPath, IsAbove, IsBefore, path_cmp}
use Rattle.ts_model.specs.Trees.{Listing, listed, at, Ascend, IsListing, IsSubListing}
use Rattle.ts_model.specs.Runs.{graft}
use Rattle.ts_model.specs.declared.row.Content.{Content}
use Rattle.ts_model.specs.declared.row.Row.{Row}
use Rattle.ts_table.specs.declared.splice.Edit.{Edit}
use Rattle.ts_table.specs.declared.splice.Put.{Put}
use Rattle.ts_table.specs.Tables.{placed, IsPlace, IsCut}
use Rattle.ts_table.specs.Splices.{grafted, ArePlaces, AreInOrder, ArePaths, lead, trail, comes_before, stands_below, spliced, put_of}
use Rattle.ts_name.proofs.Order.{late_between, before_cases, before_trans, is_lt_Less}
use Rattle.ts_name.proofs.Utf8.{all_append, all_parts}
use Rattle.ts_name.proofs.Basics.{weaker, all_both}
use Rattle.ts_table.proofs.Rows.{ascend_right, graft_at_rows}
use Rattle.ts_table.proofs.Listings.{is_above_gives, not_above_gives, is_above_yes}
use Rattle.ts_table.proofs.Cuts.{IsListing-placed}
use Rattle.ts_model.proofs.Rows.{ascend_rest}
use Rattle.ts_model.proofs.Listings.{ascend_first}

-- ---- fronts

-- the two parts make the whole
pub lead_trail : {X : Type 0} (test : X → Bool) (xs : List X) → lead test xs ++ trail test xs ≡ xs
lead_trail test [] = refl
lead_trail {X} test (x ∷ xs) = go (test x) (lead_trail test xs)
  where
    go : (b : Bool) → lead test xs ++ trail test xs ≡ xs → ◌≡◌ {A = List X} (cond b (x ∷ lead test xs) [] ++ cond b (trail test xs) (x ∷ xs)) (x ∷ xs)
    go true e = ap (λ z. x ∷ z) e
    go false e = refl

-- each element of the front passes
pub lead_all : {X : Type 0} (test : X → Bool) (xs : List X) → AllByRecursion (λ x. test x ≡ true) (lead test xs)
lead_all test [] = tt
lead_all {X} test (x ∷ xs) = go (test x) refl (lead_all test xs)
  where
    go : (b : Bool) → test x ≡ b → AllByRecursion (λ x. test x ≡ true) (lead test xs) → AllByRecursion (λ x. test x ≡ true) (cond b (x ∷ lead test xs) [])
    go true e more = (e, more)
    go false e more = tt

-- what is left after the rows before a path ascends, and none of it comes before the path
trail_late : {F : Type 0} (p : Path) (rows : Listing F) → Ascend rows → AllByRecursion (λ row. comes_before p row ≡ false) (trail (comes_before p) rows)
trail_late p [] up = tt
trail_late {F} p (row ∷ rows) up = go (comes_before p row) refl (trail_late p rows (ascend_rest row rows up))
  where
    late : comes_before p row ≡ false → (other : Row F) → IsBefore row.path other.path → comes_before p other ≡ false
    late e other before = false_from_ne_true (comes_before p other) (λ f.
        let g : is_lt (path_cmp row.path p) ≡ true = ap is_lt (before_trans row.path other.path p before (is_lt_Less _ f)) in false≢true (sym e ∙ g))

    go : (b : Bool) → comes_before p row ≡ b → AllByRecursion (λ row. comes_before p row ≡ false) (trail (comes_before p) rows) → AllByRecursion (λ row. comes_before p row ≡ false) (cond b (trail (comes_before p) rows) (row ∷ rows))
    go true e more = more
    go false e more = (e, weaker (λ (other : Row F). IsBefore row.path other.path) (λ other. comes_before p other ≡ false) (late e) rows (ascend_first row rows up))

-- and after those below it, none is below it
trail_off : {F : Type 0} (p : Path) (rows : Listing F) → Ascend rows → AllByRecursion (λ row. comes_before p row ≡ false) rows → AllByRecursion (λ row. stands_below p row ≡ false) (trail (stands_below p) rows)
trail_off p [] up late = tt
trail_off {F} p (row ∷ rows) up late = go (stands_below p row) refl (trail_off p rows (ascend_rest row rows up) late.1)
  where
    off : stands_below p row ≡ false → (other : Row F) → IsBefore row.path other.path → stands_below p other ≡ false
    off e other before = false_from_ne_true (stands_below p other) (λ f.
        let g = is_above_yes p row.path (late_between p row.path other.path late.0 before (is_above_gives p other.path f)) in false≢true (sym e ∙ g))

    go : (b : Bool) → stands_below p row ≡ b → AllByRecursion (λ row. stands_below p row ≡ false) (trail (stands_below p) rows) → AllByRecursion (λ row. stands_below p row ≡ false) (cond b (trail (stands_below p) rows) (row ∷ rows))
    go true e more = more
    go false e more = (e, weaker (λ (other : Row F). IsBefore row.path other.path) (λ other. stands_below p other ≡ false) (off e) rows (ascend_first row rows up))

-- what holds of all holds of what follows the front
trail_keeps : {X : Type 0} (P : X → Type 0) (test : X → Bool) (xs : List X) → AllByRecursion P xs → AllByRecursion P (trail test xs)
trail_keeps P test [] h = tt
trail_keeps {X} P test (x ∷ xs) h = go (test x) (trail_keeps P test xs h.1)
  where
    go : (b : Bool) → AllByRecursion P (trail test xs) → AllByRecursion P (cond b (trail test xs) (x ∷ xs))
    go true more = more
    go false more = h

-- so a path cuts the rows that are left
pub cut_left : {F : Type 0} (p : Path) (front rows : Listing F) → AllByRecursion (λ row. IsBefore row.path p) front → Ascend rows → IsCut p (front ++ lead (comes_before p) rows) (lead (stands_below p) (trail (comes_before p) rows)) (trail (stands_below p) (trail (comes_before p) rows))
cut_left {F} p front rows before up = record {
  before = all_append (λ (row : Row F). IsBefore row.path p) front (lead (comes_before p) rows) before (weaker (λ (row : Row F). comes_before p row ≡ true) (λ row. IsBefore row.path p) (λ row h. is_lt_Less _ h) (lead (comes_before p) rows) (lead_all (comes_before p) rows));
  below = weaker (λ (row : Row F). stands_below p row ≡ true) (λ row. IsAbove p row.path) (λ row h. is_above_gives p row.path h) (lead (stands_below p) (trail (comes_before p) rows)) (lead_all (stands_below p) (trail (comes_before p) rows));
  after = weaker (λ (row : Row F). (comes_before p row ≡ false) × (stands_below p row ≡ false)) (λ row. IsBefore p row.path × (¬ IsAbove p row.path)) (λ row h. after row h.0 h.1) _ (all_both _ _ _ (trail_keeps (λ (row : Row F). comes_before p row ≡ false) (stands_below p) (trail (comes_before p) rows) late) (trail_off p (trail (comes_before p) rows) rest_up late));
}
  where
    late : AllByRecursion (λ row. comes_before p row ≡ false) (trail (comes_before p) rows)
    late = trail_late p rows up

    rest_up : Ascend (trail (comes_before p) rows)
    rest_up = ascend_right (lead (comes_before p) rows) (trail (comes_before p) rows) (subst (λ z. Ascend z) (sym (lead_trail (comes_before p) rows)) up)

    after : (row : Row F) → comes_before p row ≡ false → stands_below p row ≡ false → IsBefore p row.path × (¬ IsAbove p row.path)
    after row h k = elim (before_cases p row.path) [
      | inl before ↦ (before, not_above_gives p row.path k)
      | inr more ↦ elim more [
        | inl e ↦ absurd (not_above_gives p row.path k ([], sym e ∙ sym (append-nil p)))
        | inr early ↦ (let f : is_lt (path_cmp row.path p) ≡ true = ap is_lt early in absurd (false≢true (sym h ∙ f)))
      ]
    ]

-- ---- the whole pass

-- what stands before the first edit's path
abbrev pub ComesFirst : {F : Type 0} → Listing F → List (Edit F) → Type 0
ComesFirst front [] = Unit {0}
ComesFirst front (edit ∷ edits) = AllByRecursion (λ row. IsBefore row.path edit.path) front

pub record IsSpliced {F : Type 0} (t : Path → Content F) (edits : List (Edit F)) (new : Listing F) : Type 0 where
  pub listing : IsListing new
  pub tree : at new ≡ grafted t edits

-- each part is the rows of a content
abbrev pub AreParts : {F : Type 0} → List (Edit F) → Type 0
AreParts edits = AllByRecursion (λ edit. IsSubListing edit.part) edits

-- one edit puts its rows after those that come before its path
record IsStep {F : Type 0} (front rest : Listing F) (edit : Edit F) : Type 0 where
  listing : IsListing (((front ++ lead (comes_before edit.path) rest) ++ placed edit.path edit.part) ++ trail (stands_below edit.path) (trail (comes_before edit.path) rest))
  tree : at (((front ++ lead (comes_before edit.path) rest) ++ placed edit.path edit.part) ++ trail (stands_below edit.path) (trail (comes_before edit.path) rest)) ≡ graft (at (front ++ rest)) edit.path (listed edit.part)
  before : AllByRecursion (λ row. IsBefore row.path edit.path) (front ++ lead (comes_before edit.path) rest)

-- each edit does so
step : {F : Type 0} (front rest : Listing F) (edit : Edit F) → IsListing (front ++ rest) → AllByRecursion (λ row. IsBefore row.path edit.path) front → IsPlace (at (front ++ rest)) edit.path → IsSubListing edit.part → AllByRecursion (λ row. IsPath row.path) (placed edit.path edit.part) → IsStep front rest edit
step {F} front rest edit lists first place part paths =
    let made = parted (front ++ lead (comes_before edit.path) rest) (lead (stands_below edit.path) (trail (comes_before edit.path) rest)) (trail (stands_below edit.path) (trail (comes_before edit.path) rest)) whole (cut_left edit.path front rest first (ascend_right front rest lists.ascending)) in
    record { listing = made.0; tree = made.1; before = made.2 }
  where
    whole : front ++ rest ≡ (front ++ lead (comes_before edit.path) rest) ++ (lead (stands_below edit.path) (trail (comes_before edit.path) rest) ++ trail (stands_below edit.path) (trail (comes_before edit.path) rest))
    whole =
        ap (λ z. front ++ z) (sym (lead_trail (comes_before edit.path) rest)) ∙ sym (append_assoc front (lead (comes_before edit.path) rest) (trail (comes_before edit.path) rest))
        ∙ ap (λ z. (front ++ lead (comes_before edit.path) rest) ++ z) (sym (lead_trail (stands_below edit.path) (trail (comes_before edit.path) rest)))

    parted : (early mid back : Listing F) → front ++ rest ≡ early ++ (mid ++ back) → IsCut edit.path early mid back → (IsListing ((early ++ placed edit.path edit.part) ++ back)) × (at ((early ++ placed edit.path edit.part) ++ back) ≡ graft (at (front ++ rest)) edit.path (listed edit.part)) × (AllByRecursion (λ row. IsBefore row.path edit.path) early)
    parted early mid back is cut =
        let group = append_assoc early (placed edit.path edit.part) back in (
          subst (λ z. IsListing z) (sym group) (IsListing-placed edit.path early mid back edit.part (subst (λ z. IsListing z) is lists) cut (subst (λ z. IsPlace (at z) edit.path) is place) part paths),
          ap (λ z. at z) group ∙ graft_at_rows edit.path early mid back edit.part place.not_root cut ∙ ap (λ z. graft (at z) edit.path (listed edit.part)) (sym is),
          cut.before,
        )

-- the pass makes each edit in turn
pub all_spliced : {F : Type 0} (front rest : Listing F) (edits : List (Edit F)) → IsListing (front ++ rest) → ComesFirst front edits → ArePlaces (at (front ++ rest)) edits → AreInOrder edits → AreParts edits → ArePaths edits → IsSpliced (at (front ++ rest)) edits (front ++ spliced rest (map put_of edits))
all_spliced front rest [] lists first places order parts paths = record { listing = lists; tree = refl }
all_spliced {F} front rest (edit ∷ edits) lists first places order parts paths =
    let made = step front rest edit lists first places.0 parts.0 paths.0 in
    joined made (all_spliced ((front ++ lead (comes_before edit.path) rest) ++ placed edit.path edit.part) (trail (stands_below edit.path) (trail (comes_before edit.path) rest)) edits made.listing (firsts edits order made.before) (subst (λ t. ArePlaces t edits) (sym made.tree) places.1) (orders edits order) parts.1 paths.1)
  where
    orders : (more : List (Edit F)) → AreInOrder (edit ∷ more) → AreInOrder more
    orders [] h = tt
    orders (next ∷ more) h = h.2

    firsts : (more : List (Edit F)) → AreInOrder (edit ∷ more) → AllByRecursion (λ row. IsBefore row.path edit.path) (front ++ lead (comes_before edit.path) rest) → ComesFirst ((front ++ lead (comes_before edit.path) rest) ++ placed edit.path edit.part) more
    firsts [] h before = tt
    firsts (next ∷ more) h before =
        all_append (λ (row : Row F). IsBefore row.path next.path) (front ++ lead (comes_before edit.path) rest) (placed edit.path edit.part)
        (weaker (λ (row : Row F). IsBefore row.path edit.path) (λ row. IsBefore row.path next.path) (λ row early. before_trans row.path edit.path next.path early h.0) (front ++ lead (comes_before edit.path) rest) before) h.1

    joined : IsStep front rest edit → IsSpliced (at (((front ++ lead (comes_before edit.path) rest) ++ placed edit.path edit.part) ++ trail (stands_below edit.path) (trail (comes_before edit.path) rest))) edits (((front ++ lead (comes_before edit.path) rest) ++ placed edit.path edit.part) ++ spliced (trail (stands_below edit.path) (trail (comes_before edit.path) rest)) (map put_of edits)) → IsSpliced (at (front ++ rest)) (edit ∷ edits) (front ++ spliced rest (map put_of (edit ∷ edits)))
    joined made done =
        let regroup = sym (append_assoc front (lead (comes_before edit.path) rest) (placed edit.path edit.part ++ spliced (trail (stands_below edit.path) (trail (comes_before edit.path) rest)) (map put_of edits))) ∙ sym (append_assoc (front ++ lead (comes_before edit.path) rest) (placed edit.path edit.part) (spliced (trail (stands_below edit.path) (trail (comes_before edit.path) rest)) (map put_of edits))) in
        record {
          listing = subst (λ z. IsListing z) (sym regroup) done.listing;
          tree = ap (λ z. at z) regroup ∙ done.tree ∙ ap (λ t. grafted t edits) made.tree;
        }

-- ---- one more edit

-- one more part
pub parts_push : {F : Type 0} (edits : List (Edit F)) (edit : Edit F) → AreParts edits → IsSubListing edit.part → AreParts (edits ++ edit ∷ [])
parts_push {F} edits edit all one = all_append (λ (other : Edit F). IsSubListing other.part) edits (edit ∷ []) all (one, tt)

-- one more edit within the limits
pub edit_paths_push : {F : Type 0} (edits : List (Edit F)) (edit : Edit F) → ArePaths edits → AllByRecursion (λ row. IsPath row.path) (placed edit.path edit.part) → ArePaths (edits ++ edit ∷ [])
edit_paths_push {F} edits edit all one = all_append (λ (other : Edit F). AllByRecursion (λ (row : Row F). IsPath row.path) (placed other.path other.part)) edits (edit ∷ []) all (one, tt)

-- where one is past them, not all are within
pub edit_paths_at : {F : Type 0} (all xs ys : List (Edit F)) (edit : Edit F) → all ≡ xs ++ edit ∷ ys → ArePaths all → AllByRecursion (λ row. IsPath row.path) (placed edit.path edit.part)
edit_paths_at {F} all xs ys edit is are =
    let parts = all_parts (λ (other : Edit F). AllByRecursion (λ (row : Row F). IsPath row.path) (placed other.path other.part)) xs (edit ∷ ys) (subst (λ z. ArePaths z) is are) in parts.1.0

-- its put after the others
pub puts_push : {F : Type 0} (edits : List (Edit F)) (edit : Edit F) (puts new : List (Put F)) (rows : Listing F) → puts ≡ map put_of edits → rows ≡ placed edit.path edit.part → new ≡ puts ++ record { path = edit.path; rows = rows } ∷ [] → new ≡ map put_of (edits ++ edit ∷ [])
puts_push {F} edits edit puts new rows puts_are rows_are new_is =
    new_is ∙ ap (λ z. puts ++ record { path = edit.path; rows = z } ∷ []) rows_are ∙ ap (λ z. z ++ put_of edit ∷ []) puts_are ∙ sym (map-append put_of edits (edit ∷ []))

-- so many rows more
pub rows_push : {F : Type 0} (start room next : ℕ) (puts new : List (Put F)) (put : Put F) → room ≡ start + sum_by (λ (p : Put F). length p.rows) puts → next ≡ room + length put.rows → new ≡ puts ++ put ∷ [] → next ≡ start + sum_by (λ (p : Put F). length p.rows) new
rows_push {F} start room next puts new put a b is =
    let longer : sum_by (λ (p : Put F). length p.rows) new ≡ sum_by (λ (p : Put F). length p.rows) puts + length put.rows =
    ap (sum_by (λ (p : Put F). length p.rows)) is ∙ sum_by_push (λ (p : Put F). length p.rows) puts put in
    omega arith

-- ---- one more put

-- the rows before the path, those of the put, and what the other puts make of the rest
pub spliced_next : {F : Type 0} (out rest : Listing F) (put : Put F) (more : List (Put F)) → out ++ spliced rest (put ∷ more) ≡ ((out ++ lead (comes_before put.path) rest) ++ put.rows) ++ spliced (trail (stands_below put.path) (trail (comes_before put.path) rest)) more
spliced_next out rest put more =
    let left = trail (stands_below put.path) (trail (comes_before put.path) rest) in
    sym (append_assoc out (lead (comes_before put.path) rest) (put.rows ++ spliced left more)) ∙ sym (append_assoc (out ++ lead (comes_before put.path) rest) put.rows (spliced left more))
