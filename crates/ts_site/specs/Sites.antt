-- What a commit does to a site's content, where the site tells it.
--     Replaces old new before made    it had the print before, and is now the tree
--     Differs old before              it hasn't that print
--     IsPutFor old staged put         what was put in place for what was staged: each file fits its stamp. A site that tells its content has put
--                                     just what was staged; another may have found other bytes when it read back what it had stored
--     RefusesMisfits old staged no    a site that tells its content refuses only what doesn't fit, and always where all is in memory; another also what it
--                                     reads back so
use Rattle.std.specs.Prelude.{◌≡◌, ◌≢◌, ℕ, true, List, Option, Some, None}
use Rattle.ts_stage.specs.Assemblies.{Assembly, IsComplete}
use Rattle.ts_model.specs.Trees.{Listing, listed, print_of}
use Rattle.ts_model.specs.declared.row.Stamp.{Stamp}
use Rattle.ts_print.specs.Prints.{stamped_rows}

abbrev pub Replaces : Option (Listing (List ℕ)) → Option (Listing (List ℕ)) → Listing Stamp → Listing (List ℕ) → Type 0
Replaces None new before made = new ≡ None
Replaces (Some rows) new before made = (stamped_rows rows ≡ before) × (new ≡ Some made)

abbrev pub IsPutFor : Option (Listing (List ℕ)) → Assembly → Assembly → Type 0
IsPutFor None staged put = (put.top ≡ staged.top) × (put.wanted ≡ staged.wanted) × IsComplete put
IsPutFor (Some rows) staged put = (put ≡ staged) × IsComplete put

abbrev pub RefusesMisfits : Option (Listing (List ℕ)) → Assembly → Type 0 → Type 0
RefusesMisfits None staged refuses = Unit {0}
RefusesMisfits (Some rows) staged refuses = (refuses → ¬ IsComplete staged) × (staged.held ≡ true → (¬ IsComplete staged) → refuses)

abbrev pub Differs : Option (Listing (List ℕ)) → Listing Stamp → Type 0
Differs None before = Unit {0}
Differs (Some rows) before = print_of (listed rows) ≢ listed before
