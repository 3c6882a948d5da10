-- Actions that stand entry by entry.
--     IsLocated F S acts e entry     the block of entry e stands in the actions, and no other action is of e
--     IsBuilt F S entries acts k     so it is for each entry before the k-th, and there are no other actions
use Rattle.std.specs.Prelude.{◌≡◌, ◌≢◌, ℕ, ◌-◌, ◌*◌, ◌<◌, ◌≤◌, sum_by, List, [], ◌∷◌, ◌++◌, length, Option, Some, None, MatchOption, slice_get, slice_index_or}
use Rattle.ts_name.specs.Paths.{Path, IsAbove, IsBefore}
use Rattle.ts_model.specs.declared.plan.Reason.TheVariants as reason
use Rattle.ts_plan_build.specs.declared.builder.NewDir.{NewDir}
use Rattle.ts_model.specs.Trees.{Listing}
use Rattle.ts_model.specs.declared.row.Stamp.{Stamp}
use Rattle.ts_model.specs.declared.plan.Entry.{Entry}
use Rattle.ts_model.specs.declared.plan.Action.{Action}
use Rattle.ts_model.specs.declared.plan.Kind.{Kind}
use Rattle.ts_model.specs.declared.plan.Kind.TheVariants.{Piece, Commit, Mark}
use Rattle.ts_plan_build.specs.Blocks.{block}

abbrev pub entry_of : Kind → ℕ
entry_of (Piece e offset len p) = e
entry_of (Commit e) = e
entry_of (Mark e) = e

-- no action is of entry e
abbrev pub NoneOf : ℕ → List Action → Type 0
NoneOf e acts = (i : ℕ) (a : Action) → slice_get acts i ≡ Some a → entry_of a.kind ≢ e

-- a new directory strictly above an entry
abbrev pub IsNewDirAbove : List Entry → ℕ → Entry → Entry → Type 0
IsNewDirAbove entries x dir entry = (slice_get entries x ≡ Some dir) × (dir.reason ≡ reason.Dir) × IsAbove dir.path entry.path × (dir.path ≢ entry.path)

-- the nearest of them has this mark
pub record IsNearestMark (entries : List Entry) (acts : List Action) (entry : Entry) (m : ℕ) : Type 0 where
  pub number : ℕ
  pub dir : Entry
  pub is_above : IsNewDirAbove entries number dir entry
  pub nearest : (k : ℕ) (other : Entry) → IsNewDirAbove entries k other entry → IsAbove other.path dir.path
  pub action : Action
  pub there : slice_get acts m ≡ Some action
  pub kind : action.kind ≡ Mark number

abbrev pub IsAboveMark : List Entry → List Action → Entry → Option ℕ → Type 0
IsAboveMark entries acts entry None = (k : ℕ) (other : Entry) → ¬ IsNewDirAbove entries k other entry
IsAboveMark entries acts entry (Some m) = IsNearestMark entries acts entry m

pub record IsLocated (F S : Listing Stamp) (entries : List Entry) (acts : List Action) (e : ℕ) (entry : Entry) : Type 0 where
  pub before : List Action
  pub after : List Action
  pub above : Option ℕ
  pub here : acts ≡ before ++ (block F S e entry.path entry.reason above (length before) ++ after)
  pub none_before : NoneOf e before
  pub none_after : NoneOf e after
  -- its mark waits for this one
  pub dir : IsAboveMark entries before entry above

pub record IsBuilt (F S : Listing Stamp) (entries : List Entry) (acts : List Action) (k : ℕ) : Type 0 where
  pub below : (i : ℕ) (a : Action) → slice_get acts i ≡ Some a → entry_of a.kind < k
  pub located : (e : ℕ) (entry : Entry) → e < k → slice_get entries e ≡ Some entry → IsLocated F S entries acts e entry
  pub preds : sum_by (λ a. length a.preds) acts ≤ 2 * length acts

-- ---- the directories that the builder keeps

-- some at the end are left out, none of them above p
pub record AreOff (p : Path) (old new : List NewDir) : Type 0 where
  pub back : List NewDir
  pub parts : old ≡ new ++ back
  pub off : (i : ℕ) (d : NewDir) → slice_get back i ≡ Some d → ¬ IsAbove d.path.now p

-- and the last that stays is above it
pub record AreLeft (p : Path) (old new : List NewDir) : Type 0 where
  pub left : AreOff p old new
  pub last : (d : NewDir) → slice_get new (length new - 1) ≡ Some d → IsAbove d.path.now p

-- the entry's path with this mark at the end, where it is a new directory
pub record IsKept (entry : Entry) (m : ℕ) (old new : List NewDir) : Type 0 where
  pub kept : entry.reason ≡ reason.Dir → (d : NewDir) × (d.path.now ≡ entry.path) × (d.mark ≡ m) × (new ≡ old ++ d ∷ [])
  pub same : entry.reason ≢ reason.Dir → new ≡ old

-- each path comes before those after it
abbrev pub AreOrdered : List Entry → Type 0
AreOrdered entries = (i j : ℕ) (d : Entry) → i < j → j < length entries → IsBefore (slice_index_or entries i d).path (slice_index_or entries j d).path

-- the mark of the last of these directories, or none where there are none
abbrev pub IsNearest : List NewDir → Option ℕ → Type 0
IsNearest dirs found = MatchOption found (length dirs ≡ 0) (λ m. (d : NewDir) × (0 < length dirs) × (slice_get dirs (length dirs - 1) ≡ Some d) × (d.mark ≡ m))
