-- Words of the checker's own marks and reasons.
--     snapshot_of state            the snapshot that the prints and the rules are of
--     IsReasonOf s p found         the reason of p, or none where it has none
--     LacksAt s entries p place    p has a reason and is no entry, and so many entries come before it
--     IsNeedAnswer s entries found the lesser of the two rules about reasons that is broken, with its least place
use Rattle.std.specs.Prelude.{◌≡◌, ◌≢◌, ◌⊎◌, ℕ, ◌<◌, Bool, cond, ◌&&◌, List, Option, Some, None, slice_get, count_by}
use Rattle.std.specs.Ordering.{is_lt}
use Rattle.ts_name.specs.Paths.{Path, path_cmp}
use Rattle.ts_model.specs.declared.plan.PlanRule.TheVariants.{ReasonsHold, EntriesComplete}
use Rattle.ts_need.specs.declared.broken.Broken.{Broken}
use Rattle.ts_model.specs.Trees.{IsListing}
use Rattle.ts_model.specs.Sync.{Snapshot, HasReason, listed_snapshot}
use Rattle.ts_model.specs.Plans.{HasWrongReason, Lacks}
use Rattle.ts_model.specs.declared.plan.Reason.{Reason}
use Rattle.ts_model.specs.declared.plan.Reason.TheVariants as reason
use Rattle.ts_model.specs.declared.plan.Entry.{Entry}
use Rattle.ts_need.specs.declared.state.State.{State}

abbrev pub snapshot_of : State → Snapshot
snapshot_of state = listed_snapshot state.archive.now state.first.now state.second.now state.holds.now

abbrev pub IsReasonOf : Snapshot → Path → Option Reason → Type 0
IsReasonOf s p None = (r : Reason) → ¬ HasReason s p r
IsReasonOf s p (Some r) = HasReason s p r

abbrev pub Never : (ℕ → Type 0) → Type 0
Never wrong = (k : ℕ) → ¬ wrong k

abbrev pub IsFirst : (ℕ → Type 0) → Option ℕ → Type 0
IsFirst wrong None = Never wrong
IsFirst wrong (Some k) = wrong k × ((j : ℕ) → j < k → ¬ wrong j)

-- the reason of a path where the replicas differ, by which of them changed and whether a held path is near
abbrev pub difference_reason : Bool → Bool → Bool → Reason
difference_reason first second held = cond (first && second) reason.Conflict (cond held reason.Held (cond first reason.First reason.Second))

-- the reason of a path that isn't a directory in both replicas: the replicas may differ there, or have changed alike
abbrev pub edge_reason : Bool → Bool → Bool → Bool → Option Reason
edge_reason first second apart held = cond apart (Some (difference_reason first second held)) (cond first (Some reason.Same) None)

-- the three prints are listings
pub record AreListings (state : State) : Type 0 where
  pub archive : IsListing state.archive.now
  pub first : IsListing state.first.now
  pub second : IsListing state.second.now

-- p has a reason and is no entry; the place is the number of entries before it
abbrev pub LacksAt : Snapshot → List Entry → Path → ℕ → Type 0
LacksAt s entries p place = (r : Reason) × HasReason s p r × ((k : ℕ) (entry : Entry) → slice_get entries k ≡ Some entry → entry.path ≢ p)
    × (place ≡ count_by (λ e. is_lt (path_cmp e.path p)) entries)

-- neither rule about reasons is broken; or this one is first, with its least place
abbrev pub IsNeedAnswer : Snapshot → List Entry → Option Broken → Type 0
IsNeedAnswer s entries None = Never (HasWrongReason s entries) × Never (Lacks s entries)
IsNeedAnswer s entries (Some broken) = ((broken.rule ≡ ReasonsHold) × IsFirst (HasWrongReason s entries) (Some broken.place))
    ⊎ ((broken.rule ≡ EntriesComplete) × Never (HasWrongReason s entries) × IsFirst (Lacks s entries) (Some broken.place))
