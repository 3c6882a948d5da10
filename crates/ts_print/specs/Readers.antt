-- What a reader of a print's lines refuses.
use Rattle.std.specs.Prelude.{◌≢◌, List, ◌++◌}
use Rattle.ts_model.specs.Texts.{Line, print_lines, IsPrintBody}
use Rattle.ts_model.specs.Trees.{Listing}
use Rattle.ts_model.specs.declared.row.Stamp.{Stamp}

-- no print's lines begin with these
abbrev pub BeginsNoPrint : List Line → Type 0
BeginsNoPrint lines = (rows : Listing Stamp) (rest : List Line) → IsPrintBody rows → print_lines rows ≢ lines ++ rest
