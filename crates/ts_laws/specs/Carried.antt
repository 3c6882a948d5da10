-- What carrying out a plan leaves, entry by entry, without a run.
--     copied from origin t entries     t with the origin's subtree at the path of each entry that is copied from that side
--     marked_all s archive entries     the archive with the mark of each entry that isn't skipped
--     IsCarriedOut s plan a b          these are the pair that is asked for, and the final archive
--     LeavesCarried s plan             a run in which all is done leaves just that
--     AreInPlace s plan a b            each entry stands below directories, and apart from those after it
use Rattle.std.specs.Prelude.{◌≡◌, ◌≢◌, cond, List, [], ◌∷◌, ◌++◌, Some}
use Rattle.std.specs.List.{AllByRecursion}
use Rattle.ts_name.specs.Paths.{Name, Path, IsBefore}
use Rattle.ts_model.specs.Trees.{Tree, Print, sub, IsTree}
use Rattle.ts_model.specs.Sync.{Snapshot, Synced, is_skipped}
use Rattle.ts_model.specs.Plans.{is_from}
use Rattle.ts_model.specs.Runs.{Run, Legal, graft, with_mark, after, start}
use Rattle.ts_model.specs.Headline.{FinalArchive, Premises, AllDone}
use Rattle.ts_model.specs.declared.row.Content.TheVariants.{Dir}
use Rattle.ts_model.specs.declared.plan.Side.{Side}
use Rattle.ts_model.specs.declared.plan.Side.TheVariants as side
use Rattle.ts_model.specs.declared.plan.Reason.TheVariants as reason
use Rattle.ts_model.specs.declared.plan.Entry.{Entry}
use Rattle.ts_model.specs.declared.plan.Plan.{Plan}

-- t with the origin's subtree at the path of each entry that is copied from this side, in the entries' order
abbrev pub copied : Side → Tree → Tree → List Entry → Tree
copied from origin t [] = t
copied from origin t (entry ∷ entries) = copied from origin (cond (is_from from entry.reason) (graft t entry.path (sub origin entry.path)) t) entries

-- the archive with the mark of each entry that isn't skipped, in the entries' order. The mark of a skipped one would change nothing
abbrev pub marked_all : Snapshot → Print → List Entry → Print
marked_all s archive [] = archive
marked_all s archive (entry ∷ entries) = marked_all s (cond (is_skipped entry.reason) archive (with_mark s archive (Some entry))) entries

-- what the entries of a plan leave is the pair that is asked for, with the final archive
pub record IsCarriedOut (s : Snapshot) (plan : Plan) (a b : Tree) : Type 0 where
  pub pair : Synced s a b (copied side.Second b a plan.entries) (copied side.First a b plan.entries)
  pub archive : FinalArchive s (copied side.Second b a plan.entries) (marked_all s s.archive plan.entries)
  pub trees : IsTree (copied side.Second b a plan.entries) × IsTree (copied side.First a b plan.entries)
  pub archive_tree : IsTree (marked_all s s.archive plan.entries)

-- whatever the order of its steps, a run in which all is done leaves just that
abbrev pub LeavesCarried : Snapshot → Plan → Type 0
LeavesCarried s plan = (a b : Tree) (r : Run) → Premises s a b r → Legal s plan r → AllDone plan r
    → let w = after s plan (start s a b) r in
    (w.first ≡ copied side.Second b a plan.entries) × (w.second ≡ copied side.First a b plan.entries) × (w.archive ≡ marked_all s s.archive plan.entries)

-- ---- where the entries stand

-- what an entry's path is, in the entries' order, when its turn comes
pub record IsInPlace (s : Snapshot) (a b : Tree) (before : List Entry) (entry : Entry) (after : List Entry) : Type 0 where
  pub not_root : entry.path ≢ []
  -- its parent is a directory in both replicas, and stays one in them and in the archive until then
  pub parent : (parent : Path) (name : Name) → entry.path ≡ parent ++ name ∷ [] → (a parent ≡ Dir) × (b parent ≡ Dir)
  pub in_first : (parent : Path) (name : Name) → entry.path ≡ parent ++ name ∷ [] → copied side.Second b a before parent ≡ Dir
  pub in_second : (parent : Path) (name : Name) → entry.path ≡ parent ++ name ∷ [] → copied side.First a b before parent ≡ Dir
  pub in_archive : (parent : Path) (name : Name) → entry.path ≡ parent ++ name ∷ [] → marked_all s s.archive before parent ≡ Dir
  -- it comes before each later entry's path, and so does all that is below it, unless it is a new directory
  pub ascends : AllByRecursion (λ later. IsBefore entry.path later.path) after
  pub apart : entry.reason ≢ reason.Dir → (rest : Path) → AllByRecursion (λ later. IsBefore (entry.path ++ rest) later.path) after

-- each entry is in its place
abbrev pub AreInPlace : Snapshot → Plan → Tree → Tree → Type 0
AreInPlace s plan a b = (before : List Entry) (entry : Entry) (after : List Entry) → plan.entries ≡ before ++ entry ∷ after → IsInPlace s a b before entry after
