-- Words for the places where a plan is wrong, and for what is looked up about its actions.
--     Never wrong            no place is wrong
--     IsFirst wrong found    the least wrong place, or none where no place is wrong
--     IsIndex plan kind n xs   the number of each entry's action of this kind, by entry, among the first n actions
use Rattle.std.specs.Prelude.{◌≡◌, ◌≢◌, ℕ, ◌<◌, List, length, Some, slice_get}
pub use Rattle.ts_need.specs.Needs.{Never, IsFirst}
use Rattle.ts_model.specs.Sync.{IsSkipped}
use Rattle.ts_model.specs.Plans.{KindIs, EntryIs, source, NotOneEach}
use Rattle.ts_model.specs.declared.plan.Side.{Side}
use Rattle.ts_model.specs.declared.plan.Reason.{Reason}
use Rattle.ts_model.specs.declared.plan.Entry.{Entry}
use Rattle.ts_model.specs.declared.plan.Kind.{Kind}
use Rattle.ts_model.specs.declared.plan.Kind.TheVariants.{Commit, Mark}
use Rattle.ts_model.specs.declared.plan.Plan.{Plan}
use Rattle.ts_check.specs.declared.census.Role.{Role}
use Rattle.ts_check.specs.declared.census.Role.TheVariants.{Commits, Marks}

-- the action of this role for entry e
abbrev pub kind_of : Role → ℕ → Kind
kind_of Commits = Commit
kind_of Marks = Mark

-- an entry with this reason is to have an action of this role
abbrev pub IsWanted : Role → Reason → Type 0
IsWanted Commits reason = (from : Side) × (source reason ≡ Some from)
IsWanted Marks reason = ¬ IsSkipped reason

-- entry e is to have an action of this role
abbrev pub Wants : Plan → Role → ℕ → Type 0
Wants plan role e = (entry : Entry) × EntryIs plan e entry × IsWanted role entry.reason

-- stands where an entry has no such action
abbrev pub no_action : ℕ
no_action = 4294967295

pub record IsIndex (plan : Plan) (kind : ℕ → Kind) (n : ℕ) (numbers : List ℕ) : Type 0 where
  pub size : length numbers ≡ length plan.entries
  pub found : (e i : ℕ) → slice_get numbers e ≡ Some i → i ≢ no_action → (i < n) × KindIs plan i (kind e)
  pub complete : (e i : ℕ) → i < n → KindIs plan i (kind e) → slice_get numbers e ≡ Some i

-- entry e wants an action of this role, and has none in the index
abbrev pub IsUnmet : List Entry → Role → List ℕ → ℕ → Type 0
IsUnmet entries role numbers e = (entry : Entry) × (slice_get entries e ≡ Some entry) × IsWanted role entry.reason × (slice_get numbers e ≡ Some no_action)

-- not just each entry that wants an action of this role has one
abbrev pub NotOneOf : Plan → Role → ℕ → Type 0
NotOneOf plan role = NotOneEach plan (kind_of role) (Wants plan role)

-- the number of each entry's action of this role, where just each entry that wants one has one
abbrev pub IsWholeIndex : Plan → Role → List ℕ → Type 0
IsWholeIndex plan role numbers = IsIndex plan (kind_of role) (length plan.actions) numbers × Never (NotOneOf plan role)
