-- Rows that are what the print of a tree has.
use Rattle.std.proofs.Common.{◌≡◌, ◌≢◌, ℕ, List, [], ◌∷◌, ◌++◌, refl, sym, ap, ◌∙◌, subst, inl, inr, append_assoc, append-nil}
use Rattle.std.proofs.lemmas.Bool.{cond-false}
use Rattle.std.specs.List.{AllByRecursion}
use Rattle.ts_name.specs.Paths.{Name, Path, IsPath, IsBefore}
use Rattle.ts_model.specs.Trees.{Tree, Listing, listed, at, stamped, stamp_of, print_of}
use Rattle.ts_model.specs.declared.row.Content.{Content}
use Rattle.ts_model.specs.declared.row.Content.TheVariants.{Absent, Dir, File}
use Rattle.ts_model.specs.declared.row.Row.{Row}
use Rattle.ts_model.specs.declared.row.Stamp.{Stamp}
use Rattle.ts_name.specs.Laws.{same_path_differ}
use Rattle.ts_name.proofs.Order.{before_below, before_itself}
use Rattle.ts_name.proofs.Basics.{weaker}
use Rattle.ts_table.proofs.Rows.{listed_after, listed_before}
use Rattle.ts_folder.specs.Folders.{InOrder}
use Rattle.ts_folder.specs.declared.folder.Kind.{Kind}
use Rattle.ts_scan.specs.Scans.{Children, IsUnder, AreBelow, ArePrinted}
use Rattle.ts_scan.proofs.Parts.{under_parts, under_more, decide_under, rows_before, rows_after, differ_before, differ_after}
use Rattle.ts_model.proofs.Rows.{listed_here}
use Rattle.ts_model.proofs.Listings.{listed_none}

-- the parent of whatever is there is a directory
abbrev pub IsClosed : Tree → Type 0
IsClosed t = (p : Path) (name : Name) → t (p ++ name ∷ []) ≢ Absent → t p ≡ Dir

-- whatever is there in the directory p is one of these children
abbrev pub HasOnly : Tree → Path → Children → Type 0
HasOnly t p children = (name : Name) → t (p ++ name ∷ []) ≢ Absent → IsUnder p children (p ++ name ∷ [])

-- ---- parts

pub joined_print : (t : Tree) (p : Path) (xs ys : Children) (front back : Listing Stamp) → InOrder (xs ++ ys) → AreBelow p xs front → AreBelow p ys back → ArePrinted t p xs front → ArePrinted t p ys back → ArePrinted t p (xs ++ ys) (front ++ back)
joined_print t p xs ys front back up a b of_a of_b q under = elim (under_parts p xs ys q under) [
  | inl l ↦ listed_before front back q (differ_after q back (rows_after p xs ys back q up b l)) ∙ of_a q l
  | inr r ↦ listed_after front back q (differ_before q front (rows_before p xs ys front q up a r)) ∙ of_b q r
]

-- ---- what is there

-- what has something below it is there
pub there_above : (t : Tree) (q rest : Path) → IsClosed t → t (q ++ rest) ≢ Absent → t q ≢ Absent
there_above t q [] closed there none = there (ap t (append-nil q) ∙ none)
there_above t q (name ∷ rest) closed there none =
    let below = there_above t (q ++ name ∷ []) rest closed (λ e. there (ap t (sym (append_assoc q (name ∷ []) rest)) ∙ e)) in
    let dir = closed q name below in
    let f : ◌≡◌ {A = Content (List ℕ)} Dir Absent = sym dir ∙ none in cc

-- all that stands below a directory is printed where all of its children are
pub all_printed : (t : Tree) (p : Path) (children : Children) (rows : Listing Stamp) → IsClosed t → HasOnly t p children → AreBelow p children rows → ArePrinted t p children rows → (name : Name) (rest : Path) → listed rows (p ++ name ∷ rest) ≡ stamped (t (p ++ name ∷ rest))
all_printed t p children rows closed only are printed name rest = elim (decide_under p children q) [
  | inl under ↦ printed q under
  | inr off ↦ listed_none rows q (differ off) ∙ sym (ap stamped (nothing off (t q) refl))
]
  where
    q : Path
    q = p ++ name ∷ rest

    differ : ¬ IsUnder p children q → AllByRecursion (λ row. row.path ≢ q) rows
    differ off = weaker (λ (row : Row Stamp). IsPath row.path × (row.content ≢ Absent) × IsUnder p children row.path) (λ row. row.path ≢ q) (λ row h e. off (subst (λ z. IsUnder p children z) e h.2)) rows are.rows_are

    under : t q ≢ Absent → IsUnder p children q
    under there =
        let split : (p ++ name ∷ []) ++ rest ≡ q = append_assoc p (name ∷ []) rest in
        subst (λ z. IsUnder p children z) split (under_more p children (p ++ name ∷ []) rest (only name (there_above t (p ++ name ∷ []) rest closed (λ e. there (ap t (sym split) ∙ e)))))

    nothing : ¬ IsUnder p children q → (x : Content (List ℕ)) → t q ≡ x → t q ≡ Absent
    nothing off Absent is = is
    nothing off Dir is = absurd (off (under (λ e. let f : ◌≡◌ {A = Content (List ℕ)} Dir Absent = sym is ∙ e in cc)))
    nothing off (File bytes) is = absurd (off (under (λ e. let f : ◌≡◌ {A = Content (List ℕ)} (File bytes) Absent = sym is ∙ e in cc)))

-- ---- one name

pub directory_print : (t : Tree) (p : Path) (name : Name) (kind : Kind) (children : Children) (rows : Listing Stamp) → IsClosed t → t (p ++ name ∷ []) ≡ Dir → HasOnly t (p ++ name ∷ []) children → AreBelow (p ++ name ∷ []) children rows → ArePrinted t (p ++ name ∷ []) children rows → ArePrinted t p ((name, kind) ∷ []) (record { path = p ++ name ∷ []; content = Dir } ∷ rows)
directory_print t p name kind children rows closed is only are printed q (inr none) = absurd none
directory_print t p name kind children rows closed is only are printed q (inl above) = go above.0 above.1
  where
    place : Path
    place = p ++ name ∷ []

    go : (rest : Path) → q ≡ place ++ rest → listed (record { path = place; content = Dir } ∷ rows) q ≡ stamped (t q)
    go [] e =
        let same : q ≡ place = e ∙ append-nil place in
        subst (λ z. listed (record { path = place; content = Dir } ∷ rows) z ≡ stamped (t z)) (sym same) (listed_here (record { path = place; content = Dir }) rows ∙ sym (ap stamped is))
    go (next ∷ rest) e =
        let other : place ≢ place ++ next ∷ rest = λ same. before_itself place (subst (λ z. IsBefore place z) (sym same) (before_below place next rest)) in
        subst (λ z. listed (record { path = place; content = Dir } ∷ rows) z ≡ stamped (t z)) (sym e)
        (cond-false _ _ _ (same_path_differ place (place ++ next ∷ rest) other) ∙ all_printed t place children rows closed only are printed next rest)

pub file_print : (t : Tree) (p : Path) (name : Name) (kind : Kind) (bytes : List ℕ) (stamp : Stamp) → IsClosed t → t (p ++ name ∷ []) ≡ File bytes → stamp ≡ stamp_of bytes → ArePrinted t p ((name, kind) ∷ []) (record { path = p ++ name ∷ []; content = File stamp } ∷ [])
file_print t p name kind bytes stamp closed is same_stamp q (inr none) = absurd none
file_print t p name kind bytes stamp closed is same_stamp q (inl above) = go above.0 above.1
  where
    place : Path
    place = p ++ name ∷ []

    nothing : (next : Name) (rest : Path) (x : Content (List ℕ)) → t (place ++ next ∷ rest) ≡ x → (x ≢ Absent → ⊥) → t (place ++ next ∷ rest) ≡ Absent
    nothing next rest Absent e not_there = e
    nothing next rest Dir e not_there = absurd (not_there (λ f. cc))
    nothing next rest (File b) e not_there = absurd (not_there (λ f. cc))

    alone : (next : Name) (rest : Path) → t (place ++ next ∷ rest) ≢ Absent → ⊥
    alone next rest there =
        let split : (place ++ next ∷ []) ++ rest ≡ place ++ next ∷ rest = append_assoc place (next ∷ []) rest in
        let dir = closed place next (there_above t (place ++ next ∷ []) rest closed (λ e. there (ap t (sym split) ∙ e))) in
        let f : ◌≡◌ {A = Content (List ℕ)} (File bytes) Dir = sym is ∙ dir in cc

    go : (rest : Path) → q ≡ place ++ rest → listed (record { path = place; content = File stamp } ∷ []) q ≡ stamped (t q)
    go [] e =
        let same : q ≡ place = e ∙ append-nil place in
        subst (λ z. listed (record { path = place; content = File stamp } ∷ []) z ≡ stamped (t z)) (sym same)
        (listed_here (record { path = place; content = File stamp }) [] ∙ ap File same_stamp ∙ sym (ap stamped is))
    go (next ∷ rest) e =
        let other : place ≢ place ++ next ∷ rest = λ same. before_itself place (subst (λ z. IsBefore place z) (sym same) (before_below place next rest)) in
        subst (λ z. listed (record { path = place; content = File stamp } ∷ []) z ≡ stamped (t z)) (sym e)
        (cond-false _ _ _ (same_path_differ place (place ++ next ∷ rest) other)
        ∙ sym (ap stamped (nothing next rest (t (place ++ next ∷ rest)) refl (λ there. alone next rest (λ e. there e)))))

-- ---- the whole

pub whole_print : (t : Tree) (children : Children) (rows : Listing Stamp) → IsClosed t → t [] ≡ Dir → HasOnly t [] children → AreBelow [] children rows → ArePrinted t [] children rows → at rows ≡ print_of t
whole_print t children rows closed root only are printed = λ i. λ q. each q i
  where
    each : (q : Path) → at rows q ≡ print_of t q
    each [] = sym (ap stamped root)
    each (name ∷ rest) = all_printed t [] children rows closed only are printed name rest
