-- What is found of reasons.
--     AreReasons s entries     the paths that have a reason, each with it, in path order
--     IsReasonOf s p found     the reason of p, where it has one
--     IsSeen s p ..            what stands at p in the archive and the replicas
--     IsSharedDepth s p n      directories of both replicas lead to p exactly where it has at most n names above it
--     ForEachSnapshotOf a b c Holds
--                              whatever the hold rules, so it is of the snapshot of these three listings
use Rattle.std.specs.Prelude.{◌≡◌, ◌↔◌, ℕ, ◌-◌, ◌<◌, ◌≤◌, Bool, true, false, List, [], ◌∷◌, ◌++◌, length, slice_index_or, Contains, Option, Some, None, MatchOption}
use Rattle.ts_name.specs.Paths.{Path, IsBefore}
use Rattle.ts_model.specs.Sync.{Snapshot, Because, HasReason, IsBelowDirs, listed_snapshot}
use Rattle.ts_model.specs.Trees.{Listing}
use Rattle.ts_model.specs.declared.row.Content.{Content}
use Rattle.ts_model.specs.declared.row.Stamp.{Stamp}
use Rattle.ts_model.specs.declared.hold.Rule.{Rule}
use Rattle.ts_print.specs.declared.triples.Triple.{Triple}
use Rattle.ts_model.specs.declared.plan.Reason.{Reason}
use Rattle.ts_model.specs.declared.plan.Reason.TheVariants as reason
use Rattle.ts_model.specs.declared.plan.Entry.{Entry}

pub record AreReasons (s : Snapshot) (entries : List Entry) : Type 0 where
  -- each path comes before those after it
  pub ascending : (i j : ℕ) (d : Entry) → i < j → j < length entries → IsBefore (slice_index_or entries i d).path (slice_index_or entries j d).path
  pub each : (e : Entry) → Contains entries e → HasReason s e.path e.reason
  pub all : (p : Path) (r : Reason) → HasReason s p r → Contains entries (record { path = p; reason = r })

abbrev pub IsReasonOf : Snapshot → Path → Option Reason → Type 0
IsReasonOf s p found = MatchOption found ((r : Reason) → ¬ HasReason s p r) (λ r. HasReason s p r)

pub record IsSeen (s : Snapshot) (p : Path) (archive first second : Content Stamp) : Type 0 where
  pub in_archive : s.archive p ≡ archive
  pub in_first : s.first p ≡ first
  pub in_second : s.second p ≡ second

-- the reason where the replicas differ, by whether each of them changed and whether a held path is near
abbrev pub differing_reason : Bool → Bool → Bool → Reason
differing_reason true true held = reason.Conflict
differing_reason true false true = reason.Held
differing_reason false second true = reason.Held
differing_reason true false false = reason.First
differing_reason false second false = reason.Second

-- the entries with one more, where a reason was found
abbrev pub with_reason : List Entry → Path → Option Reason → List Entry
with_reason entries p None = entries
with_reason entries p (Some r) = entries ++ record { path = p; reason = r } ∷ []

-- the reason of a path below directories of both replicas
abbrev pub IsBecause : Snapshot → Path → Option Reason → Type 0
IsBecause s p found = MatchOption found ((r : Reason) → ¬ Because s p r) (λ r. Because s p r)

-- the same of what the walk gives
abbrev pub IsTripleOf : Snapshot → Triple → Type 0
IsTripleOf s seen = IsSeen s seen.path.now seen.archive seen.first seen.second

abbrev pub IsSharedDepth : Snapshot → Path → ℕ → Type 0
IsSharedDepth s p shared = IsBelowDirs s.first s.second p ↔ (length p - 1 ≤ shared)

abbrev pub ForEachSnapshotOf : Listing Stamp → Listing Stamp → Listing Stamp → (Snapshot → Type 0) → Type 0
ForEachSnapshotOf archive first second Holds = (rules : List Rule) → Holds (listed_snapshot archive first second rules)
