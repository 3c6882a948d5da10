-- Many edits of a tree, one after another, and how rows are merged with them.
--     grafted t edits      t with each edit's rows at its path, in their order
--     ArePlaces t edits    each path is a place when its turn comes
--     AreInOrder edits     each path comes after all that the edit before it put down
--     ArePaths edits       no path of a row that is put down is past a limit
use Rattle.std.specs.Prelude.{Bool, cond, List, [], ◌∷◌, ◌++◌}
use Rattle.std.specs.List.{AllByRecursion}
use Rattle.std.specs.Ordering.{is_lt}
use Rattle.ts_name.specs.Paths.{Path, IsPath, IsBefore, path_cmp}
use Rattle.ts_model.specs.Trees.{Listing, listed}
use Rattle.ts_model.specs.Runs.{graft}
use Rattle.ts_model.specs.declared.row.Content.{Content}
use Rattle.ts_model.specs.declared.row.Row.{Row}
use Rattle.ts_table.specs.Tables.{is_above, placed, IsPlace}
use Rattle.ts_table.specs.declared.splice.Edit.{Edit}
use Rattle.ts_table.specs.declared.splice.Put.{Put}

abbrev pub grafted : {F : Type 0} → (Path → Content F) → List (Edit F) → Path → Content F
grafted t [] = t
grafted t (edit ∷ edits) = grafted (graft t edit.path (listed edit.part)) edits

abbrev pub ArePlaces : {F : Type 0} → (Path → Content F) → List (Edit F) → Type 0
ArePlaces t [] = Unit {0}
ArePlaces t (edit ∷ edits) = IsPlace t edit.path × ArePlaces (graft t edit.path (listed edit.part)) edits

abbrev pub AreInOrder : {F : Type 0} → List (Edit F) → Type 0
AreInOrder [] = Unit {0}
AreInOrder (edit ∷ []) = Unit {0}
AreInOrder (edit ∷ next ∷ edits) = IsBefore edit.path next.path × AllByRecursion (λ row. IsBefore row.path next.path) (placed edit.path edit.part) × AreInOrder (next ∷ edits)

abbrev pub ArePaths : {F : Type 0} → List (Edit F) → Type 0
ArePaths edits = AllByRecursion (λ edit. AllByRecursion (λ row. IsPath row.path) (placed edit.path edit.part)) edits

-- ---- rows in a queue

-- the elements from the front on that pass, and what follows them
abbrev pub lead : {X : Type 0} → (X → Bool) → List X → List X
lead test [] = []
lead test (x ∷ xs) = cond (test x) (x ∷ lead test xs) []

abbrev pub trail : {X : Type 0} → (X → Bool) → List X → List X
trail test [] = []
trail test (x ∷ xs) = cond (test x) (trail test xs) (x ∷ xs)

abbrev pub comes_before : {F : Type 0} → Path → Row F → Bool
comes_before p row = is_lt (path_cmp row.path p)

abbrev pub stands_below : {F : Type 0} → Path → Row F → Bool
stands_below p row = is_above p row.path

-- the rows with those of each put at its path, in place of what stood there
abbrev pub spliced : {F : Type 0} → Listing F → List (Put F) → Listing F
spliced rows [] = rows
spliced rows (put ∷ puts) = lead (comes_before put.path) rows ++ (put.rows ++ spliced (trail (stands_below put.path) (trail (comes_before put.path) rows)) puts)

-- these rows come before the path of the first put, if there is one
abbrev pub ComeFirst : {F : Type 0} → List (Put F) → Listing F → Type 0
ComeFirst [] rows = Unit {0}
ComeFirst (put ∷ puts) rows = AllByRecursion (λ row. IsBefore row.path put.path) rows

-- the rows of an edit, as they are put down
abbrev pub put_of : {F : Type 0} → Edit F → Put F
put_of edit = record { path = edit.path; rows = placed edit.path edit.part }
