-- What the calls of a print say of its rows.
--     stamped_rows rows    the rows of a tree, with a stamp in place of each file's bytes
use Rattle.std.specs.Prelude.{ℕ, List, map}
use Rattle.ts_model.specs.declared.row.Row.{Row}
use Rattle.ts_model.specs.declared.row.Stamp.{Stamp}
use Rattle.ts_model.specs.Trees.{Listing, stamped}

abbrev pub stamped_row : Row (List ℕ) → Row Stamp
stamped_row row = record { path = row.path; content = stamped row.content }

abbrev pub stamped_rows : Listing (List ℕ) → Listing Stamp
stamped_rows rows = map stamped_row rows
