-- What the calls of a table say of its rows.
--     rows_below p rows    the rows at p and below it
--     placed p rows        rows relative to p, as they stand below p
--     relative p rows      the rows at p and below it, relative to p
--     IsPlace t p          p is not the root, and its parent is a directory of t
--     grafted t edits      t with each edit's rows at its path, one edit after another
--     IsCut p front mid back    rows before p, at p or below it, and after all that
--     seen                 a content behind a reference
use Rattle.std.specs.Prelude.{◌≡◌, ◌≢◌, Bool, true, false, [], ◌∷◌, ◌++◌, Some, None, map, filter}
use denote.Ref.{Bor}
use Rattle.std.specs.List.{AllByRecursion}
use Rattle.ts_name.specs.Paths.{Name, Path, IsAbove, IsBefore, below}
use Rattle.ts_model.specs.Trees.{Listing}
use Rattle.ts_model.specs.declared.row.Content.{Content}
use Rattle.ts_model.specs.declared.row.Content.TheVariants.{Absent, Dir, File}

-- whether q is p or below it
abbrev pub is_above : Path → Path → Bool
is_above p q = elim (below p q) [ None ↦ false | Some rest ↦ true ]

abbrev pub rows_below : {F : Type 0} → Path → Listing F → Listing F
rows_below p rows = filter (λ row. is_above p row.path) rows

abbrev pub placed : {F : Type 0} → Path → Listing F → Listing F
placed p rows = map (λ row. record { path = p ++ row.path; content = row.content }) rows

abbrev pub relative : {F : Type 0} → Path → Listing F → Listing F
relative p [] = []
relative p (row ∷ rows) = elim (below p row.path) [ None ↦ relative p rows | Some rest ↦ record { path = rest; content = row.content } ∷ relative p rows ]

-- the row that the root has where a listing is seen from it
abbrev pub root_row : {F : Type 0} → Path → Listing F
root_row [] = record { path = []; content = Dir } ∷ []
root_row (name ∷ names) = []

pub record IsPlace {F : Type 0} (t : Path → Content F) (p : Path) : Type 0 where
  pub not_root : p ≢ []
  pub parent : (parent : Path) (name : Name) → p ≡ parent ++ name ∷ [] → t parent ≡ Dir

abbrev pub seen : {F : Type 0} → Content (Bor F) → Content F
seen Absent = Absent
seen Dir = Dir
seen (File x) = File x.now

pub record IsCut {F : Type 0} (p : Path) (front mid back : Listing F) : Type 0 where
  pub before : AllByRecursion (λ row. IsBefore row.path p) front
  pub below : AllByRecursion (λ row. IsAbove p row.path) mid
  pub after : AllByRecursion (λ row. IsBefore p row.path × (¬ IsAbove p row.path)) back

-- these rows, and one more after them
abbrev pub with_row : {F : Type 0} → Listing F → Path → Content F → Listing F
with_row rows p content = rows ++ record { path = p; content = content } ∷ []
