-- What entries put at their paths, and edits that do so.
--     copies from origin, marks first second what an entry puts, by its reason and its path
--     left_by puts t entries                 t with what each entry puts, in their order
--     MayFollow puts t entries               each path is a place when its turn comes, and comes after all that was put before
--     IsPart p content part                  the rows of a content that may stand at p
--     Gives                                  an edit for what is put, and none for nothing
--     AreEdits puts entries edits            the edits are those of the entries, in their order
use Rattle.std.specs.Prelude.{◌≡◌, ◌≢◌, ℕ, cond, List, [], ◌∷◌, ◌++◌, Option, Some, None}
use Rattle.std.specs.List.{AllByRecursion}
use Rattle.ts_name.specs.Paths.{Path, IsPath, IsBefore}
use Rattle.ts_model.specs.Trees.{Listing, Print, Tree, IsSubListing, listed, sub}
use Rattle.ts_model.specs.Plans.{is_from}
use Rattle.ts_model.specs.Runs.{graft, bare_directory}
use Rattle.ts_model.specs.Sync.{treatment}
use Rattle.ts_model.specs.declared.row.Content.{Content}
use Rattle.ts_model.specs.declared.row.Content.TheVariants.{Absent}
use Rattle.ts_model.specs.declared.row.Stamp.{Stamp}
use Rattle.ts_model.specs.declared.plan.Entry.{Entry}
use Rattle.ts_model.specs.declared.plan.Reason.{Reason}
use Rattle.ts_model.specs.declared.plan.Side.{Side}
use Rattle.ts_model.specs.declared.plan.Side.TheVariants as side
use Rattle.ts_model.specs.declared.plan.Treatment.{Treatment}
use Rattle.ts_model.specs.declared.plan.Treatment.TheVariants.{Copied, Agreed, NewDirectory, Skipped}
use Rattle.ts_table.specs.Tables.{IsPlace, placed}
use Rattle.ts_table.specs.declared.splice.Edit.{Edit}

abbrev pub copies : Side → Tree → Reason → Path → Option (Path → Content (List ℕ))
copies from origin r p = cond (is_from from r) (Some (sub origin p)) None

abbrev pub marks_by : Print → Print → Treatment → Path → Option (Path → Content Stamp)
marks_by first second (Copied side.First) p = Some (sub first p)
marks_by first second (Copied side.Second) p = Some (sub second p)
marks_by first second Agreed p = Some (sub first p)
marks_by first second NewDirectory p = Some bare_directory
marks_by first second Skipped p = None

abbrev pub marks : Print → Print → Reason → Path → Option (Path → Content Stamp)
marks first second r p = marks_by first second (treatment r) p

abbrev pub with_put : {F : Type 0} → (Path → Content F) → Path → Option (Path → Content F) → Path → Content F
with_put t p None = t
with_put t p (Some content) = graft t p content

abbrev pub left_by : {F : Type 0} → (Reason → Path → Option (Path → Content F)) → (Path → Content F) → List Entry → Path → Content F
left_by puts t [] = t
left_by puts t (entry ∷ entries) = left_by puts (with_put t entry.path (puts entry.reason entry.path)) entries

-- all that is put at p comes before the path of each later entry
abbrev pub ComesFirst : {F : Type 0} → Path → Option (Path → Content F) → List Entry → Type 0
ComesFirst p None entries = Unit {0}
ComesFirst p (Some content) entries =
    AllByRecursion (λ later. IsBefore p later.path) entries
    × ((rest : Path) → content rest ≢ Absent → AllByRecursion (λ later. IsBefore (p ++ rest) later.path) entries)

abbrev pub MayFollow : {F : Type 0} → (Reason → Path → Option (Path → Content F)) → (Path → Content F) → List Entry → Type 0
MayFollow puts t [] = Unit {0}
MayFollow puts t (entry ∷ entries) =
    IsPlace t entry.path × ComesFirst entry.path (puts entry.reason entry.path) entries
    × MayFollow puts (with_put t entry.path (puts entry.reason entry.path)) entries

-- ---- edits

pub record IsPart {F : Type 0} (p : Path) (content : Path → Content F) (part : Listing F) : Type 0 where
  pub rows : IsSubListing part
  pub lists : listed part ≡ content
  pub paths : AllByRecursion (λ row. IsPath row.path) (placed p part)

pub record IsEditAt {F : Type 0} (p : Path) (content : Path → Content F) (edit : Edit F) : Type 0 where
  pub path : edit.path ≡ p
  pub part : IsPart p content edit.part

abbrev pub Gives : {F : Type 0} → Option (Path → Content F) → Path → Option (Edit F) → Type 0
Gives None p None = Unit {0}
Gives None p (Some edit) = ⊥
Gives (Some content) p None = ⊥
Gives (Some content) p (Some edit) = IsEditAt p content edit

-- the edits are one for what is put, and then those that follow
abbrev pub Begins : {F : Type 0} → Option (Path → Content F) → Path → List (Edit F) → (List (Edit F) → Type 0) → Type 0
Begins None p edits Follow = Follow edits
Begins (Some content) p [] Follow = ⊥
Begins (Some content) p (edit ∷ edits) Follow = IsEditAt p content edit × Follow edits

abbrev pub AreEdits : {F : Type 0} → (Reason → Path → Option (Path → Content F)) → List Entry → List (Edit F) → Type 0
AreEdits puts [] edits = edits ≡ []
AreEdits puts (entry ∷ entries) edits = Begins (puts entry.reason entry.path) entry.path edits (λ rest. AreEdits puts entries rest)
