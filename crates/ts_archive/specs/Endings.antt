-- The end line, and what a decoder answers.
use Rattle.std.specs.Prelude.{◌≡◌, ℕ, ◌<◌, ◌^◌, List, [], ◌∷◌, length, codes, decimal, IfSome}
use Rattle.hex.specs.Hex.{encode_lower}
use Rattle.ts_text.specs.Lines.{Reading}
use Rattle.ts_model.specs.Texts.{Line, words, IsBytes, IsPrintBody, IsArchiveText, HasWrongEnd}
use Rattle.ts_model.specs.Trees.{Listing}
use Rattle.ts_model.specs.declared.row.Stamp.{Stamp}
use Rattle.ts_tree.specs.Decoding.{SourceFailed}
use Rattle.ts_archive.specs.declared.fault.ArchiveFault.{ArchiveFault}
use Rattle.ts_archive.specs.declared.fault.ArchiveFault.TheVariants as fault

abbrev pub header : Line
header = codes "twosync-archive 1"

abbrev pub end_line : ℕ → List ℕ → Line
end_line count digest = words (codes "end" ∷ decimal count ∷ encode_lower digest ∷ [])

-- a count and a digest that an end line may tell
abbrev pub EndFits : ℕ → List ℕ → Type 0
EndFits count digest = (count < 2 ^ 64) × IsBytes digest × (length digest ≡ 32)

-- the bytes that were left, where the source tells them, spell the archive file of the print
abbrev pub DecodesArchive : Reading → Listing Stamp → Type 0
DecodesArchive old rows = IsPrintBody rows × IfSome old.left (λ bytes. IsArchiveText bytes rows)

-- no print's archive file, and not one but for its end line either
pub record IsNoArchive (bytes : List ℕ) : Type 0 where
  pub none : (rows : Listing Stamp) → ¬ IsArchiveText bytes rows
  pub other_end : ¬ HasWrongEnd bytes

-- the archive file of a print but for its end line, and of none with it
pub record EndsWrong (bytes : List ℕ) : Type 0 where
  pub wrong : HasWrongEnd bytes
  pub none : (rows : Listing Stamp) → ¬ IsArchiveText bytes rows

-- why no print is answered
abbrev pub FindsNoArchive : Reading → Reading → ArchiveFault → Type 0
FindsNoArchive old new fault.OutOfMemory = Unit {0}
FindsNoArchive old new fault.Failed = SourceFailed old new
FindsNoArchive old new fault.NotCanonical = IfSome old.left IsNoArchive
FindsNoArchive old new fault.WrongEnd = IfSome old.left EndsWrong
