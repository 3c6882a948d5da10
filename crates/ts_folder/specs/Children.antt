-- The children of a directory among the rows of a tree.
--     child_of p row      the name and the kind of a row that stands in the directory p
--     children p rows     those of all rows, in their order
use Rattle.std.specs.Prelude.{ℕ, List, [], ◌∷◌, Option, Some, None}
use Rattle.std.specs.List.{filter_map}
use Rattle.ts_name.specs.Paths.{Name, Path, below}
use Rattle.ts_model.specs.Trees.{Listing}
use Rattle.ts_model.specs.declared.row.Content.{Content}
use Rattle.ts_model.specs.declared.row.Content.TheVariants.{Absent, Dir, File}
use Rattle.ts_model.specs.declared.row.Row.{Row}
use Rattle.ts_folder.specs.declared.folder.Kind.{Kind}
use Rattle.ts_folder.specs.declared.folder.Kind.TheVariants as kind

-- the kind of what is there; nothing is absent in a row
abbrev pub kind_of : Content (List ℕ) → Kind
kind_of Absent = kind.File
kind_of Dir = kind.Dir
kind_of (File bytes) = kind.File

-- what is left of a path below the directory, where that is one name
abbrev pub named : Option Path → Kind → Option (Name × Kind)
named None k = None
named (Some []) k = None
named (Some (name ∷ [])) k = Some (name, k)
named (Some (name ∷ next ∷ rest)) k = None

abbrev pub child_of : Path → Row (List ℕ) → Option (Name × Kind)
child_of p row = named (below p row.path) (kind_of row.content)

abbrev pub children : Path → Listing (List ℕ) → List (Name × Kind)
children p rows = filter_map (child_of p) rows
