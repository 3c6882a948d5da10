-- A table that is split at paths, and parts that are put at these paths.
--     MaySplit t paths          each path is a place, and each later one comes after it and isn't below it
--     without t paths           t, with nothing at these paths and below them
--     ArePartsAt t paths parts  for each path the rows of what t has there
--     edits_of paths parts      each part at its path
--     FrameOf F                 what is left of a table, and the paths at which it was split
use Rattle.std.specs.Prelude.{◌≡◌, cond, List, [], ◌∷◌}
use Rattle.std.specs.List.{AllByRecursion, list_any}
use Rattle.ts_name.specs.Paths.{Path, IsAbove, IsBefore}
use Rattle.ts_model.specs.Trees.{Listing, IsListing, IsSubListing, listed, at, sub}
use Rattle.ts_model.specs.declared.row.Content.{Content}
use Rattle.ts_model.specs.declared.row.Content.TheVariants.{Absent}
use Rattle.ts_table.specs.Tables.{is_above, IsPlace}
use Rattle.ts_table.specs.Splices.{grafted}
use Rattle.ts_table.specs.declared.splice.Edit.{Edit}

abbrev pub AreSeparate : List Path → Type 0
AreSeparate [] = Unit {0}
AreSeparate (p ∷ paths) = AllByRecursion (λ q. IsBefore p q × (¬ IsAbove p q)) paths × AreSeparate paths

pub record MaySplit {F : Type 0} (t : Path → Content F) (paths : List Path) : Type 0 where
  pub separate : AreSeparate paths
  pub places : AllByRecursion (λ p. IsPlace t p) paths

abbrev pub without : {F : Type 0} → (Path → Content F) → List Path → Path → Content F
without t paths q = cond (list_any (λ p. is_above p q) paths) Absent (t q)

abbrev pub ArePartsAt : {F : Type 0} → (Path → Content F) → List Path → List (Listing F) → Type 0
ArePartsAt t [] [] = Unit {0}
ArePartsAt t [] (part ∷ parts) = ⊥
ArePartsAt t (p ∷ paths) [] = ⊥
ArePartsAt t (p ∷ paths) (part ∷ parts) = IsSubListing part × (listed part ≡ sub t p) × ArePartsAt t paths parts

abbrev pub edits_of : {F : Type 0} → List Path → List (Listing F) → List (Edit F)
edits_of [] parts = []
edits_of (p ∷ paths) [] = []
edits_of (p ∷ paths) (part ∷ parts) = record { path = p; part = part } ∷ edits_of paths parts

pub record FrameOf (F : Type 0) : Type 0 where
  pub rows : Listing F
  pub paths : List Path

-- parts may be put at its paths
pub record IsFrame {F : Type 0} (frame : FrameOf F) : Type 0 where
  pub listing : IsListing frame.rows
  pub may_join : MaySplit (at frame.rows) frame.paths

-- whatever the frame was cut out of, this is that with the parts at the frame's paths
abbrev pub FillsEach : {F : Type 0} → FrameOf F → List (Listing F) → (Path → Content F) → Type 0
FillsEach {F} frame parts filled = (t : Path → Content F) → at frame.rows ≡ without t frame.paths → filled ≡ grafted t (edits_of frame.paths parts)
