-- The line of a row of a print.
use Rattle.std.specs.Prelude.{◌≢◌, ℕ, List, [], ◌∷◌, ◌++◌, decimal}
use Rattle.hex.specs.Hex.{encode_lower}
use Rattle.ts_name.specs.Paths.{Path}
use Rattle.ts_model.specs.Texts.{Line, StampFits, print_row_lines}
use Rattle.ts_model.specs.declared.row.Content.{Content}
use Rattle.ts_model.specs.declared.row.Content.TheVariants.{Absent}
use Rattle.ts_model.specs.declared.row.Stamp.{Stamp}
use Rattle.ts_tree.specs.Fields.{IsNamed}

-- a row that a print may have
abbrev pub RowFits : Path → Content Stamp → Type 0
RowFits p x = IsNamed p × (x ≢ Absent) × StampFits x

-- the line spells no row
abbrev pub IsNoRow : Line → Type 0
IsNoRow line = (p : Path) (x : Content Stamp) → RowFits p x → print_row_lines p x ≢ line ∷ []

-- what the line of a file says after its word: the text of its path, its size and its digest
abbrev pub stamped_fields : List ℕ → Stamp → List ℕ
stamped_fields path stamp = path ++ 32 ∷ (decimal stamp.size ++ 32 ∷ encode_lower stamp.digest)
