-- What a machine tells, in one value: the promises of commands are about it.
--     Finds                    what was found by a name: nothing, or a file, with its bytes where it tells them
--     World                    what sites, stages, folders, files and locks tell
--     world disk site folder stage   that of a machine, whose sites, folders and stages tell this
use Rattle.std.specs.Prelude.{ℕ, Bool, List, Option}
use Rattle.ts_name.specs.Paths.{Path}
use Rattle.ts_folder.specs.declared.fault.Trouble.{Trouble}
use Rattle.ts_folder.specs.declared.folder.Call.{Call}
use Rattle.ts_folder.specs.declared.folder.Folder as folders
use Rattle.ts_model.specs.Trees.{Listing}
use Rattle.ts_model.specs.declared.row.Stamp.{Stamp}
use Rattle.ts_site.specs.declared.site.Site as sites
use Rattle.ts_stage.specs.declared.stage.Stage as stages
use Rattle.ts_perform.specs.Specials.{FindsSpecial}
use Rattle.ts_perform.specs.Stands.{IsAt, IsStaged, Stand}
use Rattle.ts_perform.specs.declared.disk.Disk as disks

abbrev pub Finds : Type 1
Finds = List ℕ → Option (Option (List ℕ)) → Type 0

pub record World (S F P A L : Type 0) : Type 1 where
  -- where a site's commit is made, what is at its place, and how often its device has failed
  pub stand : S → Stand
  pub content : S → Option (Listing (List ℕ))
  pub failures : S → ℕ
  -- by which root a folder was asked for, what tree it tells, and how its calls may fail
  pub is_at : IsAt F
  pub tells : F → Option (Listing (List ℕ))
  pub lets : F → Call → Path → Trouble → Type 0
  -- by which roots a stage was asked for, and that it may fail
  pub is_staged : IsStaged P
  pub fails : P → Type 0
  -- by which name the place of an archive was claimed, and what was written in it
  pub is_named : A → List ℕ → Type 0
  pub has : A → Listing Stamp → Type 0
  -- which files and special paths were found
  pub finds : Finds
  pub finds_special : FindsSpecial
  -- how a replica was locked, and whether it was said then that it knows the archive in a place; or that it knows the archive of this
  -- name, without a lock
  pub is_locked : Option L → List ℕ → Type 0
  pub knows : L → A → Bool → Type 0
  pub known : (root archive : List ℕ) → Bool → Type 0
  -- of which two replicas it was said whether the same run was stopped in both
  pub stopped : (first second : List ℕ) → Bool → Type 0
  -- whether both replicas were told of the archive before it was written in this place
  pub taught : A → Bool → Type 0
  -- of which replica it was said whether a stopped run isn't brought to its end there
  pub awaits : List ℕ → Bool → Type 0
  -- below which root what stood at a path has reached the device, and the directories in which it stood
  pub is_flushed : List ℕ → Path → Type 0
  pub is_flushed_above : List ℕ → Path → Type 0

abbrev pub world : {R File F S Way P L A Opened : Type 0} → disks.Ghosts R File F S Way P L A Opened → sites.Ghosts S → folders.Ghosts F File → stages.Ghosts P
    → World S F P A L
world disk site folder stage = record {
  stand = disk.stand;
  content = site.content;
  failures = site.failures;
  is_at = disk.is_at;
  tells = folder.tells;
  lets = folder.lets;
  is_staged = disk.is_staged;
  fails = stage.fails;
  is_named = disk.is_named;
  has = disk.has;
  finds = disk.finds;
  finds_special = disk.finds_special;
  is_locked = disk.is_locked;
  knows = disk.knows;
  known = disk.known;
  stopped = disk.stopped;
  taught = disk.taught;
  awaits = disk.awaits;
  is_flushed = disk.is_flushed;
  is_flushed_above = disk.is_flushed_above;
}
