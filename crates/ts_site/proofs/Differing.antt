-- Rows that aren't those of a print have another print.
use Rattle.std.proofs.Common.{◌≢◌, ℕ, List, refl, sym, ◌∙◌}
use Rattle.ts_model.specs.Trees.{IsSubListing, Listing, listed, print_of, stamped}
use Rattle.ts_model.specs.declared.row.Stamp.{Stamp}
use Rattle.ts_print.specs.Prints.{stamped_rows}
use Rattle.ts_stage.proofs.Assembling.{IsSubListing-changed, print-listed}
use Rattle.ts_table.proofs.Uses.{one_sub_listing}
use Rattle.ts_model.proofs.Rows.{stamped_absent}

IsSubListing-stamped : (rows : Listing (List ℕ)) → IsSubListing rows → IsSubListing (stamped_rows rows)
IsSubListing-stamped rows is =
    IsSubListing-changed (λ p x. stamped x) (record { absent = λ p. refl; dir = λ p. refl; there = λ p x e. stamped_absent x e }) rows is

-- since a print has one listing
pub other_print : (rows : Listing (List ℕ)) (before : Listing Stamp) → IsSubListing rows → IsSubListing before → stamped_rows rows ≢ before → print_of (listed rows) ≢ listed before
other_print rows before of_rows of_before other same = other (one_sub_listing (stamped_rows rows) before (IsSubListing-stamped rows of_rows) of_before (sym (print-listed rows) ∙ same))
