-- What help, `scan` and `show` print, each with status 0.
--     IsTold known written status                  this text, where it is known
--     IsScanText w root written status             the archive file of a scan of the folder that has this root
--     IsShown finds name written status            the body of the archive that was read from the file of this name
use Rattle.std.specs.Prelude.{◌≡◌, ℕ, List, [], Option, IfSome}
use Rattle.ts_model.specs.Texts.{IsArchiveText, archive_text, print_lines, text}
use Rattle.ts_model.specs.Trees.{Listing}
use Rattle.ts_model.specs.declared.row.Stamp.{Stamp}
use Rattle.ts_perform.specs.Inputs.{IsReadAt}
use Rattle.ts_perform.specs.Stands.{IsScanOf}
use Rattle.ts_perform.specs.Worlds.{Finds, World}

abbrev pub IsTold : Option (List ℕ) → List ℕ → ℕ → Type 0
IsTold known written status = IfSome known (λ told. written ≡ told) × (status ≡ 0)

abbrev pub IsArchiveFile : Listing Stamp → List ℕ → ℕ → Type 0
IsArchiveFile rows written status = (written ≡ archive_text rows) × (status ≡ 0)

abbrev pub IsScanText : {S F P A L : Type 0} → World S F P A L → List ℕ → List ℕ → ℕ → Type 0
IsScanText w root written status = (print : Listing Stamp) × IsScanOf w.is_at w.tells root [] print × IsArchiveFile print written status

abbrev pub IsBodyOf : Listing Stamp → List ℕ → ℕ → Type 0
IsBodyOf rows written status = (written ≡ text (print_lines rows)) × (status ≡ 0)

abbrev pub IsShown : Finds → List ℕ → List ℕ → ℕ → Type 0
IsShown finds name written status = (rows : Listing Stamp) × IsReadAt finds IsArchiveText name rows × IsBodyOf rows written status
