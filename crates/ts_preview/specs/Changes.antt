-- What became of a path from one print to another.
--     change_from x y                  by what stood there and what stands there now, where it isn't the same
--     IsChange before after p change   the change of p and of what is below it
use Rattle.std.specs.Prelude.{◌≡◌, ◌≢◌, ◌⊎◌, ℕ, List, codes}
use Rattle.ts_name.specs.Paths.{Path}
use Rattle.ts_model.specs.Trees.{Print, sub}
use Rattle.ts_model.specs.declared.row.Content.{Content}
use Rattle.ts_model.specs.declared.row.Content.TheVariants.{Absent, Dir, File}
use Rattle.ts_model.specs.declared.row.Stamp.{Stamp}
use Rattle.ts_preview.specs.declared.change.Change.{Change}
use Rattle.ts_preview.specs.declared.change.Change.TheVariants.{Unchanged, New, Changed, Deleted, BecameDirectory, BecameFile}

abbrev pub change_from : Content Stamp → Content Stamp → Change
change_from Absent y = New
change_from Dir Absent = Deleted
change_from (File x) Absent = Deleted
change_from (File x) Dir = BecameDirectory
change_from Dir (File y) = BecameFile
change_from Dir Dir = Changed
change_from (File x) (File y) = Changed

abbrev pub IsChange : Print → Print → Path → Change → Type 0
IsChange before after p change =
    ((sub before p ≡ sub after p) × (change ≡ Unchanged))
    ⊎ ((sub before p ≢ sub after p) × (change ≡ change_from (before p) (after p)))

abbrev pub change_word : Change → List ℕ
change_word Unchanged = codes "unchanged"
change_word New = codes "new"
change_word Changed = codes "changed"
change_word Deleted = codes "deleted"
change_word BecameDirectory = codes "file becomes directory"
change_word BecameFile = codes "directory becomes file"
