-- The laws that ts_model's definitions don't name themselves.
--     snapshot_at A F S rules          what a listed archive, listed replicas and hold rules are
--     OnePairOfListings A F S rules    what the requirements ask of them exists, once
--     IsReasonDecided s p              whether a path has a reason, and which
--     EntriesAreReasons s plan         the entries are the paths with a reason, with that reason, each once
--     DirsAreParents plan              the nearest new directory above an entry is at its parent
--     IsDecided s plan                 the plan is valid, or one rule is broken first, at one place
--     DirtIsDifference s on t o        away from held paths, dirty means that two trees differ
--     CanFinish s plan                 a legal run without a failure goes on until each action is done
--     FindsPieces, CountsOpen          what the words of a legal run say
--     EndsAlike s plan                 a stopped run is resumed to the same end
use Rattle.std.specs.Prelude.{◌≡◌, ◌≢◌, ◌⊎◌, ◌↔◌, ℕ, Bool, not, List, [], ◌∷◌, ◌++◌, length, take, drop, count_by, Contains}
use Rattle.std.specs.List.{list_any}
use Rattle.ts_name.specs.Paths.{Name, Path}
use Rattle.ts_model.specs.Trees.{Tree, Listing, at, listed, sub, print_of, HasContent, AreApart, IsListing, IsSubListing}
use Rattle.ts_model.specs.Sync.{Snapshot, IsSnapshot, AreReplicas, replica, TouchesHeld, IsDirty, HasReason, Synced}
use Rattle.ts_model.specs.Plans.{EntryIs, ActionIs, KindIs, Copies, NearestDir, Wrong, Broken, Valid}
use Rattle.ts_model.specs.Runs.{Run, Has, HasNot, claims, finishes, fails, releases, IsPieceOf, open_count, Legal, after, start}
use Rattle.ts_model.specs.Headline.{AllDone, FinalArchive, HasOnePair, Meets, Premises}
use Rattle.ts_model.specs.Resume.{IsClosedPart, archive_of_part, stopped}
use Rattle.ts_model.specs.declared.row.Content.TheVariants.{File}
use Rattle.ts_model.specs.declared.hold.Rule.{Rule}
use Rattle.ts_model.specs.declared.row.Stamp.{Stamp}
use Rattle.ts_model.specs.declared.plan.Side.{Side}
use Rattle.ts_model.specs.declared.plan.Side.TheVariants as side
use Rattle.ts_model.specs.declared.plan.Reason.{Reason}
use Rattle.ts_model.specs.declared.plan.Entry.{Entry}
use Rattle.ts_model.specs.declared.plan.Kind.{Kind}
use Rattle.ts_model.specs.declared.plan.Kind.TheVariants.{Piece, Commit, Mark}
use Rattle.ts_model.specs.declared.plan.Action.{Action}
use Rattle.ts_model.specs.declared.plan.Plan.{Plan}
use Rattle.ts_model.specs.declared.plan.PlanRule.{PlanRule}
use Rattle.ts_model.specs.declared.step.Work.{Work}
use Rattle.ts_model.specs.declared.step.Work.TheVariants.{Staged, Put, Marked}
use Rattle.ts_model.specs.declared.step.Step.TheVariants.{Act}

abbrev pub snapshot_at : Listing Stamp → Listing (List ℕ) → Listing (List ℕ) → List Rule → Snapshot
snapshot_at archive first second rules = record { archive = at archive; first = print_of (at first); second = print_of (at second); rules = rules }

abbrev pub OnePairOfListings : Listing Stamp → Listing (List ℕ) → Listing (List ℕ) → List Rule → Type 0
OnePairOfListings archive first second rules =
    IsListing archive → IsListing first → IsListing second → AreApart (Meets (at first) (at second) [])
    → HasOnePair (snapshot_at archive first second rules) (at first) (at second)

-- ---- reasons

-- whether the path has a reason, and which, is decided
pub record IsReasonDecided (s : Snapshot) (p : Path) : Type 0 where
  pub some : Dec ((r : Reason) × HasReason s p r)
  pub each : (r : Reason) → Dec (HasReason s p r)

-- ---- entries

-- some entry has this path and this reason
abbrev pub IsEntryOf : Plan → Path → Reason → Type 0
IsEntryOf plan p r = (e : ℕ) × (entry : Entry) × EntryIs plan e entry × (entry.path ≡ p) × (entry.reason ≡ r)

-- the entries are the paths with a reason
pub record EntriesAreReasons (s : Snapshot) (plan : Plan) : Type 0 where
  pub same : (p : Path) (r : Reason) → HasReason s p r ↔ IsEntryOf plan p r
  pub once : (k l : ℕ) (x y : Entry) → EntryIs plan k x → EntryIs plan l y → x.path ≡ y.path → k ≡ l

-- the nearest new directory strictly above an entry is at its parent
abbrev pub DirsAreParents : Plan → Type 0
DirsAreParents plan = (e d : ℕ) (h : NearestDir plan e d) → (name : Name) × (h.below.path ≡ h.dir.path ++ name ∷ [])

-- ---- rules

-- no place breaks the rule
abbrev pub Keeps : Snapshot → Plan → PlanRule → Type 0
Keeps s plan rule = (place : ℕ) → ¬ Wrong s plan rule place

-- a plan is valid, or broken by one rule at one place
pub record IsDecided (s : Snapshot) (plan : Plan) : Type 0 where
  pub answer : Valid s plan ⊎ ((rule : PlanRule) × (place : ℕ) × Broken s plan rule place)
  pub one_rule : (q r : PlanRule) (k l : ℕ) → Broken s plan q k → Broken s plan r l → (q ≡ r) × (k ≡ l)

-- ---- dirty paths

-- t has the print of the side, o has that of the archive, and no two contents of theirs share a stamp
pub record ArePrinted (s : Snapshot) (on : Side) (t o : Tree) : Type 0 where
  pub replica_print : print_of t ≡ replica s on
  pub archive_print : print_of o ≡ s.archive
  pub apart : AreApart (λ bytes. HasContent t bytes ⊎ HasContent o bytes)

-- a path that no held path is above, below or equal to is dirty exactly where the subtrees differ
abbrev pub DirtIsDifference : Snapshot → Side → Tree → Tree → Type 0
DirtIsDifference s on t o = (p : Path) → ¬ TouchesHeld s p → IsDirty s on p ↔ (sub t p ≢ sub o p)

-- ---- runs that go on

-- no step is a failure
abbrev pub IsUnfailed : Run → Type 0
IsUnfailed r = (i : ℕ) → HasNot r (fails i)

-- the tree of a side
abbrev pub tree_of : Tree → Tree → Side → Tree
tree_of a b side.First = a
tree_of a b side.Second = b

-- the work is made of the replicas' own contents: a piece stages its range of the source's file, a commit puts the source's subtree
abbrev pub IsOwnWork : Tree → Tree → Plan → Kind → Work → Type 0
IsOwnWork a b plan (Piece e offset size p) (Staged bytes) = (entry : Entry) × (from : Side) × (content : List ℕ)
    × Copies plan e entry from × (tree_of a b from p ≡ File content) × (bytes ≡ take size (drop offset content))
IsOwnWork a b plan (Commit e) (Put rows) = (entry : Entry) × (from : Side)
    × Copies plan e entry from × IsSubListing rows × (listed rows ≡ sub (tree_of a b from) entry.path)
IsOwnWork a b plan (Mark e) Marked = Unit {0}
IsOwnWork a b plan _ _ = ⊥

-- after these steps each action is done; none of them fails, and they bring in no contents but the replicas'
pub record Finishes (s : Snapshot) (plan : Plan) (a b : Tree) (r more : Run) : Type 0 where
  pub legal : Legal s plan (r ++ more)
  pub unfailed : IsUnfailed more
  pub done : AllDone plan (r ++ more)
  pub own : (i : ℕ) (work : Work) → Contains more (Act i work) → (kind : Kind) × KindIs plan i kind × IsOwnWork a b plan kind work
  pub met : (bytes : List ℕ) → Meets a b (r ++ more) bytes → Meets a b r bytes

-- from any legal run without a failure
abbrev pub CanFinish : Snapshot → Plan → Type 0
CanFinish s plan = (a b : Tree) (r : Run) → IsSnapshot s → AreReplicas s a b → Legal s plan r → IsUnfailed r
    → (more : Run) × Finishes s plan a b r more

-- a commit that is claimed finds each of its pieces done
abbrev pub FindsPieces : Snapshot → Plan → Type 0
FindsPieces s plan = (r : Run) (c k : ℕ) → Legal s plan r → Has r (claims c) → IsPieceOf plan c k → Has r (finishes k)

-- the open predecessors of an action are those that were not released to it
abbrev pub CountsOpen : Snapshot → Plan → Type 0
CountsOpen s plan = (r : Run) (i : ℕ) (action : Action) → Legal s plan r → ActionIs plan i action
    → open_count plan r i ≡ count_by (λ j. not (list_any (releases j i) r)) action.preds

-- whatever valid plan what a stopped run left is given, once it is done it ends with the same pair and a final archive of the first snapshot
abbrev pub EndsAlike : Snapshot → Plan → Type 0
EndsAlike s plan = (a b c d : Tree) (r : Run) (part : ℕ → Bool) → Premises s a b r → Legal s plan r → Synced s a b c d → IsClosedPart plan r part
    → let w = after s plan (start s a b) r in
    let t = stopped s w (archive_of_part s plan part (length plan.actions)) in
    (next : Plan) (more : Run) → Valid t next → Legal t next more → AreApart (Meets w.first w.second more) → AllDone next more
    → let v = after t next (start t w.first w.second) more in
    (v.first ≡ c) × (v.second ≡ d) × FinalArchive s c v.archive

-- ---- the premises can be met

-- a snapshot with a valid plan that has a piece, a commit and a mark
pub record ValidExample : Type 0 where
  pub snapshot : Snapshot
  pub plan : Plan
  pub first : Tree
  pub second : Tree
  pub path : Path
  pub premises : Premises snapshot first second []
  pub valid : Valid snapshot plan
  pub piece : KindIs plan 0 (Piece 0 0 1 path)
  pub commit : KindIs plan 1 (Commit 0)
  pub mark : KindIs plan 2 (Mark 0)
