-- The assembly of what a commit puts in place.
--     assembly_of part            its directories and files, each file without bytes yet
--     with_more top path bytes    rows with the bytes at the end of the file at that whole path
--     HasSoFar a path n           the file at that whole path has n bytes so far
--     put_in a path piece         the assembly with a piece at the end of the file at that whole path
--     IsComplete a                each file fits its stamp
use Rattle.std.specs.Prelude.{◌≡◌, ℕ, Bool, true, cond, List, [], ◌++◌, length, map}
use Rattle.ts_name.specs.Paths.{Path, same_path}
use Rattle.ts_model.specs.Trees.{Listing, listed}
use Rattle.ts_model.specs.declared.row.Content.{Content}
use Rattle.ts_model.specs.declared.row.Content.TheVariants.{Absent, Dir, File}
use Rattle.ts_model.specs.declared.row.Stamp.{Stamp}
use Rattle.ts_print.specs.Parts.{Part}
use Rattle.ts_print.specs.Prints.{stamped_rows}
use Rattle.ts_stage.specs.Stagings.{Staging, both}

-- the path at which it will stand; the print that it is to have, and what is staged so far, relative to that path; and whether all of that is in
-- memory
pub record Assembly : Type 0 where
  pub top : Path
  pub wanted : Listing Stamp
  pub made : Listing (List ℕ)
  pub held : Bool

abbrev pub begun : Content Stamp → Content (List ℕ)
begun Absent = Absent
begun Dir = Dir
begun (File stamp) = File []

abbrev pub begun_rows : Listing Stamp → Listing (List ℕ)
begun_rows rows = map (λ row. record { path = row.path; content = begun row.content }) rows

abbrev pub assembly_of : Part → Assembly
assembly_of part = record { top = part.top; wanted = part.rows; made = begun_rows part.rows; held = true }

-- a file with these bytes at its end
abbrev pub more : List ℕ → Content (List ℕ) → Content (List ℕ)
more bytes Absent = Absent
more bytes Dir = Dir
more bytes (File had) = File (had ++ bytes)

abbrev pub with_more : Path → Path → List ℕ → Listing (List ℕ) → Listing (List ℕ)
with_more top path bytes rows =
    map (λ row. record { path = row.path; content = cond (same_path (top ++ row.path) path) (more bytes row.content) row.content }) rows

abbrev pub HasSoFar : Assembly → Path → ℕ → Type 0
HasSoFar a path n = (rest : Path) × (had : List ℕ) × (path ≡ a.top ++ rest) × (listed a.made rest ≡ File had) × (length had ≡ n)

-- all of it is still in memory where it was, and the piece is
abbrev pub put_in : Assembly → Path → Staging → Assembly
put_in a path piece = record a { made = with_more a.top path piece.bytes a.made; held = both a.held piece.held }

abbrev pub IsComplete : Assembly → Type 0
IsComplete a = stamped_rows a.made ≡ a.wanted
