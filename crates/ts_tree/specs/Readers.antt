-- What a reader of a tree's lines has taken.
--     open_lines f        the lines of a file that isn't whole yet, so far
--     BeginsNoTree        no tree's lines begin with these
--     SpellsNoTree        no tree's lines are these
use Rattle.std.specs.Prelude.{◌≡◌, ◌≢◌, ℕ, ◌/◌, ◌%◌, ◌<◌, ◌^◌, List, [], ◌∷◌, ◌++◌, length, Option, Some, None}
use Rattle.ts_name.specs.Paths.{Path}
use Rattle.ts_model.specs.Texts.{Line, IsBytes, data_lines, tree_lines, IsTreeBody}
use Rattle.ts_model.specs.Trees.{Listing, IsListing}
use Rattle.ts_model.specs.declared.row.Content.{Content}
use Rattle.ts_model.specs.declared.row.Content.TheVariants.{Absent}
use Rattle.ts_tree.specs.Fields.{IsNamed, file_line}
use Rattle.ts_tree.specs.declared.reader.OpenFile.{OpenFile}

-- a row at the path may come next
abbrev pub MayCome : Listing (List ℕ) → Path → Type 0
MayCome rows p = (x : Content (List ℕ)) → x ≢ Absent → IsListing (rows ++ record { path = p; content = x } ∷ [])

-- whole lines of a file's first bytes, of which there are more
pub record OpenFits (rows : Listing (List ℕ)) (f : OpenFile) : Type 0 where
  pub named : IsNamed f.path
  pub size : f.size < 2 ^ 64
  pub bytes : IsBytes f.bytes.items
  pub whole : length f.bytes.items % 64 ≡ 0
  pub less : length f.bytes.items < f.size
  pub next : MayCome rows f.path

abbrev pub open_lines : Option OpenFile → List Line
open_lines None = []
open_lines (Some f) = file_line f.path f.size ∷ data_lines (length f.bytes.items / 64) f.bytes.items

abbrev pub MayBeOpen : Listing (List ℕ) → Option OpenFile → Type 0
MayBeOpen rows None = Unit {0}
MayBeOpen rows (Some f) = OpenFits rows f

abbrev pub BeginsNoTree : List Line → Type 0
BeginsNoTree lines = (rows : Listing (List ℕ)) (rest : List Line) → IsTreeBody rows → tree_lines rows ≢ lines ++ rest

abbrev pub SpellsNoTree : List Line → Type 0
SpellsNoTree lines = (rows : Listing (List ℕ)) → IsTreeBody rows → tree_lines rows ≢ lines
