-- Rows that leave a table for parts: what each part is, and what is left.
use Rattle.std.proofs.Common.{◌≡◌, ◌≢◌, ℕ, suc, ◌+◌, ◌<◌, ◌≤◌, get_or, Bool, true, false, List, [], ◌∷◌, ◌++◌, length, map, take, drop, Option, Some, None, refl, sym, ap, ◌∙◌, subst, append_assoc, arith}
use Rattle.std.proofs.lemmas.List.{map-append}
use Rattle.std.specs.List.{AllByRecursion}
use Rattle.ts_name.specs.Paths.{Path, IsAbove, IsBefore, below}
use Rattle.ts_model.specs.Trees.{Listing, listed, at, Ascend, IsListing, IsSubListing}
use Rattle.ts_model.specs.declared.row.Row.{Row}
use Rattle.ts_table.specs.Tables.{placed, relative, rows_below, IsCut}
use Rattle.ts_table.specs.Splices.{comes_before, lead, spliced, stands_below, trail}
use Rattle.ts_table.specs.Splits.{AreSeparate, ArePartsAt}
use Rattle.ts_table.specs.Slots.{HasRoom, SlotFits, SlotsFit, cleared, parted, passed, paths_of, rerouted, slot_paths, taken}
use Rattle.ts_table.specs.declared.frame.Slot.{Slot}
use Rattle.ts_name.proofs.Order.{before_trans, below_before}
use Rattle.ts_name.proofs.Utf8.{all_append}
use Rattle.ts_name.proofs.Basics.{weaker}
use Rattle.ts_table.proofs.Rows.{ascend_right}
use Rattle.ts_table.proofs.Found.{mid_is_below}
use Rattle.ts_table.proofs.Relative.{IsPart, part_of, relative_more, relative_pass}
use Rattle.ts_table.proofs.Splicing.{cut_left, lead_all, lead_trail}

-- ---- rows that move to other paths

-- rows seen from a path above them are as many
pub relative_length : {F : Type 0} (p : Path) (rows : Listing F) → AllByRecursion (λ row. stands_below p row ≡ true) rows → length (relative p rows) ≡ length rows
relative_length p [] all = refl
relative_length {F} p (row ∷ rows) all = go (below p row.path) refl all.0 (relative_length p rows all.1)
  where
    go : (o : Option Path) → below p row.path ≡ o → ◌≡◌ {A = Bool} (elim o [ None ↦ false | Some rest ↦ true ]) true → length (relative p rows) ≡ length rows → length {A = Row F} (elim o [ None ↦ relative p rows | Some rest ↦ record { path = rest; content = row.content } ∷ relative p rows ]) ≡ suc (length rows)
    go None e h more = cc
    go (Some rest) e h more = ap suc more

-- rows that get the paths seen from a path above them are seen from it
pub rerouted_relative : {F : Type 0} (p : Path) (rows more : Listing F) → AllByRecursion (λ row. stands_below p row ≡ true) rows → rerouted (paths_of (relative p rows)) (rows ++ more) ≡ relative p rows
rerouted_relative p [] more all = refl
rerouted_relative {F} p (row ∷ rows) more all = go (below p row.path) all.0 (rerouted_relative p rows more all.1)
  where
    go : (o : Option Path) → ◌≡◌ {A = Bool} (elim o [ None ↦ false | Some rest ↦ true ]) true → rerouted (paths_of (relative p rows)) (rows ++ more) ≡ relative p rows
        → ◌≡◌ {A = Listing F} (rerouted (paths_of (elim o [ None ↦ relative p rows | Some rest ↦ record { path = rest; content = row.content } ∷ relative p rows ])) (row ∷ (rows ++ more))) (elim o [ None ↦ relative p rows | Some rest ↦ record { path = rest; content = row.content } ∷ relative p rows ])
    go None h e = cc
    go (Some rest) h e = ap (λ z. record { path = rest; content = row.content } ∷ z) e

-- rows that get the paths of their places are placed
pub rerouted_placed : {F : Type 0} (p : Path) (rows : Listing F) → rerouted (paths_of (placed p rows)) rows ≡ placed p rows
rerouted_placed p [] = refl
rerouted_placed p (row ∷ rows) = ap (λ z. record { path = p ++ row.path; content = row.content } ∷ z) (rerouted_placed p rows)

-- what stands behind a front
drop_front : {A : Type 0} (xs ys : List A) → drop (length xs) (xs ++ ys) ≡ ys
drop_front [] ys = refl
drop_front (x ∷ xs) ys = drop_front xs ys

pub length_paths : {F : Type 0} (rows : Listing F) → length (paths_of rows) ≡ length rows
length_paths [] = refl
length_paths (row ∷ rows) = ap suc (length_paths rows)

-- as many rows as a slot has paths: those that go with its own
pub record Takes {F : Type 0} (p : Path) (rows : Listing F) (names : List Path) : Type 0 where
  pub part : rerouted names rows ≡ relative p (lead (stands_below p) rows)
  pub left : drop (length names) rows ≡ trail (stands_below p) rows
  pub fewer : length names ≤ length rows

pub slot_takes : {F : Type 0} (p : Path) (rows : Listing F) (names : List Path) → names ≡ paths_of (relative p (lead (stands_below p) rows)) → Takes p rows names
slot_takes {F} p rows names is = record {
  part = ap (λ z. rerouted z rows) is ∙ ap (rerouted (paths_of (relative p (lead (stands_below p) rows)))) (sym parts) ∙ rerouted_relative p (lead (stands_below p) rows) (trail (stands_below p) rows) all;
  left = ap (λ n. drop n rows) long ∙ ap (drop (length (lead (stands_below p) rows))) (sym parts) ∙ drop_front (lead (stands_below p) rows) (trail (stands_below p) rows);
  fewer = shorter (lead (stands_below p) rows) (trail (stands_below p) rows) parts long;
}
  where
    parts : lead (stands_below p) rows ++ trail (stands_below p) rows ≡ rows
    parts = lead_trail (stands_below p) rows

    all : AllByRecursion (λ row. stands_below p row ≡ true) (lead (stands_below p) rows)
    all = lead_all (stands_below p) rows

    long : length names ≡ length (lead (stands_below p) rows)
    long = ap length is ∙ length_paths (relative p (lead (stands_below p) rows)) ∙ relative_length p (lead (stands_below p) rows) all

    front : {A : Type 0} (xs ys : List A) → length xs ≤ length (xs ++ ys)
    front [] ys = omega arith
    front (x ∷ xs) ys = let h = front xs ys in omega arith

    shorter : (xs ys : Listing F) → xs ++ ys ≡ rows → length names ≡ length xs → length names ≤ length rows
    shorter xs ys e f = subst (λ z. length names ≤ length z) e (subst (λ n. n ≤ length (xs ++ ys)) (sym f) (front xs ys))

-- ---- which rows go with each path

-- at each path's turn the rows that go with it are all that stand below it
abbrev pub AllTaken : {F : Type 0} → Listing F → Listing F → List Path → Type 0
AllTaken all rest [] = Unit {0}
AllTaken all rest (p ∷ paths) = (taken p rest ≡ rows_below p all) × AllTaken all (passed p rest) paths

-- they are, where the rows that were passed come before each path
all_taken : {F : Type 0} (all gone rest : Listing F) (paths : List Path) → all ≡ gone ++ rest → IsListing all → AreSeparate paths → AllByRecursion (λ p. AllByRecursion (λ row. IsBefore row.path p) gone) paths → AllTaken all rest paths
all_taken all gone rest [] is lists separate before = tt
all_taken {F} all gone rest (p ∷ paths) is lists separate before = (
  sym (ap (rows_below p) whole ∙ mid_is_below p (gone ++ lead (comes_before p) rest) (taken p rest) (passed p rest) cut),
  all_taken all ((gone ++ lead (comes_before p) rest) ++ taken p rest) (passed p rest) paths (whole ∙ sym (append_assoc (gone ++ lead (comes_before p) rest) (taken p rest) (passed p rest))) lists separate.1
      (weaker (λ (q : Path). IsBefore p q × (¬ IsAbove p q)) (λ q. AllByRecursion (λ (row : Row F). IsBefore row.path q) ((gone ++ lead (comes_before p) rest) ++ taken p rest)) later paths separate.0),
)
  where
    up : Ascend rest
    up = ascend_right gone rest (subst (λ z. Ascend z) is lists.ascending)

    cut : IsCut p (gone ++ lead (comes_before p) rest) (taken p rest) (passed p rest)
    cut = cut_left p gone rest before.0 up

    whole : all ≡ (gone ++ lead (comes_before p) rest) ++ (taken p rest ++ passed p rest)
    whole =
        is ∙ ap (λ z. gone ++ z) (sym (lead_trail (comes_before p) rest)) ∙ sym (append_assoc gone (lead (comes_before p) rest) (trail (comes_before p) rest))
        ∙ ap (λ z. (gone ++ lead (comes_before p) rest) ++ z) (sym (lead_trail (stands_below p) (trail (comes_before p) rest)))

    later : (q : Path) → IsBefore p q × (¬ IsAbove p q) → AllByRecursion (λ (row : Row F). IsBefore row.path q) ((gone ++ lead (comes_before p) rest) ++ taken p rest)
    later q h =
        all_append (λ (row : Row F). IsBefore row.path q) (gone ++ lead (comes_before p) rest) (taken p rest)
        (weaker (λ (row : Row F). IsBefore row.path p) (λ row. IsBefore row.path q) (λ row early. before_trans row.path p q early h.0) (gone ++ lead (comes_before p) rest) cut.before)
        (weaker (λ (row : Row F). IsAbove p row.path) (λ row. IsBefore row.path q) (λ row above. subst (λ z. IsBefore z q) (sym above.1) (below_before p above.0 q h.0 h.1)) (taken p rest) cut.below)

-- nothing was passed at first
pub taken_at_first : {F : Type 0} (all : Listing F) (paths : List Path) → IsListing all → AreSeparate paths → AllTaken all all paths
taken_at_first {F} all paths lists separate = all_taken all [] all paths refl lists separate (none paths)
  where
    none : (paths : List Path) → AllByRecursion (λ p. AllByRecursion (λ (row : Row F). IsBefore row.path p) []) paths
    none [] = tt
    none (p ∷ paths) = (tt, none paths)

-- below a path that isn't the root, the part is the rows there
part_there : {F : Type 0} (all : Listing F) (p : Path) → p ≢ [] → IsListing all → IsPart all (relative p (rows_below p all)) p
part_there all [] some lists = absurd (some refl)
part_there all (n ∷ p) some lists = part_of all (n ∷ p) lists

-- so each part is what the tree has there
pub parts_there : {F : Type 0} (all rest : Listing F) (paths : List Path) → IsListing all → AllByRecursion (λ p. p ≢ []) paths → AllTaken all rest paths → ArePartsAt (at all) paths (parted rest paths)
parts_there all rest [] lists some h = tt
parts_there {F} all rest (p ∷ paths) lists some h =
    let part = part_there all p some.0 lists in
    (subst (λ z. IsSubListing (relative p z)) (sym h.0) part.listing, ap (λ z. listed (relative p z)) h.0 ∙ part.tree, parts_there all (passed p rest) paths lists some.1 h.1)

-- and the slots fit
pub slots_fit : {F : Type 0} (all rest : Listing F) (slots : List (Slot F)) → IsListing all → AllByRecursion (λ p. p ≢ []) (slot_paths slots) → AllTaken all rest (slot_paths slots) → AllByRecursion (λ slot. SlotFits all slot) slots → SlotsFit rest slots
slots_fit all rest [] lists some h fits = tt
slots_fit {F} all rest (slot ∷ slots) lists some h fits =
    let part = part_there all slot.path some.0 lists in (
      fits.0.names ∙ ap (λ z. paths_of (relative slot.path z)) (sym h.0),
      subst (λ z. IsSubListing (relative slot.path z)) (sym h.0) part.listing,
      fits.0.room,
      slots_fit all (passed slot.path rest) slots lists some.1 h.1 fits.1,
    )

-- ---- a loop over the rows below a path

-- one more row is below the path
pub paths_more : {F : Type 0} (p : Path) (xs : Listing F) (i : ℕ) (row : Row F) (rest : Path) → i < length xs → row ≡ get_or xs i row → Some rest ≡ below p row.path → paths_of (relative p (take (i + 1) xs)) ≡ paths_of (relative p (take i xs)) ++ rest ∷ []
paths_more {F} p xs i row rest under is e = ap paths_of (relative_more p [] xs i row rest under is e) ∙ map-append (λ (r : Row F). r.path) (relative p (take i xs)) (record { path = rest; content = row.content } ∷ [])

-- or it isn't
pub paths_pass : {F : Type 0} (p : Path) (xs : Listing F) (i : ℕ) (row : Row F) → i < length xs → row ≡ get_or xs i row → None ≡ below p row.path → paths_of (relative p (take (i + 1) xs)) ≡ paths_of (relative p (take i xs))
paths_pass p xs i row under is e = ap paths_of (relative_pass p [] xs i row under is e)

-- ---- a slot's turn

-- what moves out before a slot's path stands before what is left behind its part
pub step_rows : {F : Type 0} (front rest : Listing F) (p : Path) (paths : List Path) → (front ++ lead (comes_before p) rest) ++ spliced (passed p rest) (map cleared paths) ≡ front ++ spliced rest (map cleared (p ∷ paths))
step_rows front rest p paths = append_assoc front (lead (comes_before p) rest) (spliced (passed p rest) (map cleared paths))

-- what a slot's turn gives
pub record IsTurn {F : Type 0} (rest left : Listing F) (slot : Slot F) (slots : List (Slot F)) : Type 0 where
  pub part : rerouted slot.names.items left ≡ relative slot.path (taken slot.path rest)
  pub behind : drop (length slot.names.items) left ≡ passed slot.path rest
  pub fewer : length slot.names.items ≤ length left
  pub listing : IsSubListing (relative slot.path (taken slot.path rest))
  pub room : HasRoom slot
  pub more : SlotsFit (passed slot.path rest) slots

pub slot_turn : {F : Type 0} (rest left : Listing F) (slot : Slot F) (slots all : List (Slot F)) → all ≡ slot ∷ slots → SlotsFit rest all → left ≡ trail (comes_before slot.path) rest → IsTurn rest left slot slots
slot_turn {F} rest left slot slots all is fits passed_front =
    let fit : SlotsFit rest (slot ∷ slots) = subst (λ z. SlotsFit rest z) is fits in
    let takes = slot_takes slot.path left slot.names.items (fit.0 ∙ ap (λ z. paths_of (relative slot.path (lead (stands_below slot.path) z))) (sym passed_front)) in
    record {
      part = takes.part ∙ ap (λ z. relative slot.path (lead (stands_below slot.path) z)) passed_front;
      behind = takes.left ∙ ap (trail (stands_below slot.path)) passed_front;
      fewer = takes.fewer;
      listing = fit.1;
      room = fit.2;
      more = fit.3;
    }

-- the rows that moved
pub part_moved : {F : Type 0} (rest left : Listing F) (slot : Slot F) (slots : List (Slot F)) (moved : Listing F) → IsTurn rest left slot slots → moved ≡ slot.room.items ++ rerouted slot.names.items left → moved ≡ relative slot.path (taken slot.path rest)
part_moved {F} rest left slot slots moved turn is = is ∙ ap (λ z. z ++ rerouted slot.names.items left) turn.room.empty ∙ turn.part
