-- What was staged of a file: its bytes, and whether they are in memory.
--     joined a b           the bytes of both, in memory where both are
--     joined_to piece x    a file with the piece at its end
--     told x, told_rows    contents and rows with what was staged of each file told as its bytes
--     is_held, all_held    each file's bytes are in memory
use Rattle.std.specs.Prelude.{ℕ, Bool, true, false, cond, List, [], ◌∷◌, ◌++◌, map}
use Rattle.ts_model.specs.Trees.{Listing}
use Rattle.ts_model.specs.declared.row.Content.{Content}
use Rattle.ts_model.specs.declared.row.Content.TheVariants.{Absent, Dir, File}
use Rattle.ts_model.specs.declared.row.Row.{Row}

pub record Staging : Type 0 where
  pub bytes : List ℕ
  pub held : Bool

abbrev pub both : Bool → Bool → Bool
both a b = cond a b false

abbrev pub joined : Staging → Staging → Staging
joined a b = record { bytes = a.bytes ++ b.bytes; held = both a.held b.held }

abbrev pub told : Content Staging → Content (List ℕ)
told Absent = Absent
told Dir = Dir
told (File file) = File file.bytes

abbrev pub told_row : Row Staging → Row (List ℕ)
told_row row = record { path = row.path; content = told row.content }

abbrev pub told_rows : Listing Staging → Listing (List ℕ)
told_rows rows = map told_row rows

-- a file with this piece at its end
abbrev pub joined_to : Staging → Content Staging → Content Staging
joined_to piece Absent = Absent
joined_to piece Dir = Dir
joined_to piece (File had) = File (joined had piece)

abbrev pub is_held : Content Staging → Bool
is_held Absent = true
is_held Dir = true
is_held (File file) = file.held

abbrev pub all_held : Listing Staging → Bool
all_held [] = true
all_held (row ∷ rows) = both (is_held row.content) (all_held rows)
