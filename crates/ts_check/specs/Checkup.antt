-- What a checked plan says of its actions.
--     Checkup                     the plan, and what it was checked against
--     checkup_with plan ..        that of these
--     IsSourcePart k c part       part is what the source of commit c has at its entry's path and below it; the target likewise
use Rattle.std.specs.Prelude.{◌≡◌, ℕ, List, [], Some, None, slice_get}
use Rattle.ts_model.specs.Plans.{KindIs, Copies}
use Rattle.ts_model.specs.Sync.{Snapshot, listed_snapshot, replica}
use Rattle.ts_model.specs.Trees.{Listing, listed, sub}
use Rattle.ts_model.specs.declared.hold.Rule.{Rule}
use Rattle.ts_model.specs.declared.plan.Entry.{Entry}
use Rattle.ts_model.specs.declared.plan.Kind.TheVariants.{Commit}
use Rattle.ts_model.specs.declared.plan.Plan.{Plan}
use Rattle.ts_model.specs.declared.plan.Side.{Side}
use Rattle.ts_model.specs.declared.plan.Side.TheVariants as side
use Rattle.ts_model.specs.declared.row.Stamp.{Stamp}
use Rattle.ts_print.specs.Parts.{Part}

pub record Checkup : Type 0 where
  pub plan : Plan
  pub archive : Listing Stamp
  pub first : Listing Stamp
  pub second : Listing Stamp
  pub rules : List Rule

-- a plan, with what it was checked against
abbrev pub checkup_with : Plan → Listing Stamp → Listing Stamp → Listing Stamp → List Rule → Checkup
checkup_with plan archive first second rules = record { plan = plan; archive = archive; first = first; second = second; rules = rules }

abbrev pub snapshot_of : Checkup → Snapshot
snapshot_of k = listed_snapshot k.archive k.first k.second k.rules

-- the actions that action i waits for
abbrev pub preds : Plan → ℕ → List ℕ
preds plan i = elim (slice_get plan.actions i) [ None ↦ [] | Some action ↦ action.preds ]

abbrev pub IsCommit : Plan → ℕ → Type 0
IsCommit plan c = (e : ℕ) × KindIs plan c (Commit e)

-- the side that isn't copied from is copied to
abbrev pub target : Side → Side
target side.First = side.Second
target side.Second = side.First

-- what a side has at the path of commit c's entry and below it; the side depends on which one the entry is copied from
pub record IsPartOf (k : Checkup) (c : ℕ) (choice : Side → Side) (part : Part) : Type 0 where
  pub entry : Entry
  pub from : Side
  pub of_commit : (e : ℕ) × KindIs k.plan c (Commit e) × Copies k.plan e entry from
  pub top : part.top ≡ entry.path
  pub rows : listed part.rows ≡ sub (replica (snapshot_of k) (choice from)) entry.path

abbrev pub IsSourcePart : Checkup → ℕ → Part → Type 0
IsSourcePart k c part = IsPartOf k c (λ from. from) part

abbrev pub IsTargetPart : Checkup → ℕ → Part → Type 0
IsTargetPart k c part = IsPartOf k c target part
