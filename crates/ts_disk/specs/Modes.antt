-- Permission bits.
--     private_bits standing     those of what nobody but its owner may use
--     IsStored row              the row has a file that pieces have stored
--     IsStoredBelowTop row      so it is, and it isn't the tree's top
use Rattle.std.specs.Prelude.{◌≡◌, ◌≢◌, [], ℕ, false}
use Rattle.ts_disk.specs.declared.place.Standing.{Standing}
use Rattle.ts_disk.specs.declared.place.Standing.TheVariants.{Nothing, CutOff, Dir, File, Other}
use Rattle.ts_model.specs.declared.row.Content.TheVariants as content
use Rattle.ts_model.specs.declared.row.Row.{Row}
use Rattle.ts_stage.specs.Stagings.{Staging}

-- 0700 for a directory, 0600 for all else
abbrev pub private_bits : Standing → ℕ
private_bits Nothing = 384
private_bits CutOff = 384
private_bits Dir = 448
private_bits File = 384
private_bits Other = 384

abbrev pub IsStored : Row Staging → Type 0
IsStored row = (file : Staging) × (row.content ≡ content.File file) × (file.held ≡ false)

abbrev pub IsStoredBelowTop : Row Staging → Type 0
IsStoredBelowTop row = (row.path ≢ []) × IsStored row
