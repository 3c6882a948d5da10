-- When a plan is valid, and which rule a plan breaks first.
--     Wrong s plan rule place     the rule is broken there. Entries and actions count from 0
--     Broken s plan rule place    no earlier rule is broken, this one is, and this is the least place
--     Valid s plan                no rule is broken anywhere
use Rattle.std.specs.Prelude.{◌≡◌, ◌≢◌, ◌⊎◌, ℕ, ◌+◌, ◌-◌, ◌%◌, ◌<◌, ◌≤◌, min, sum_by, count_by}
use Rattle.std.specs.Prelude.{Bool, true, false, List, [], ◌∷◌, length, Contains, Option, Some, None, slice_get}
use Rattle.std.specs.Ordering.{is_lt}
use Rattle.ts_name.specs.Paths.{Path, IsAbove, IsBefore, path_cmp}
use Rattle.ts_model.specs.declared.row.Content.TheVariants.{File}
use Rattle.ts_model.specs.declared.row.Stamp.{Stamp}
use Rattle.ts_model.specs.Sync.{Snapshot, replica, HasReason, IsSkipped, treatment}
use Rattle.ts_model.specs.declared.plan.Side.{Side}
use Rattle.ts_model.specs.declared.plan.Side.TheVariants as side
use Rattle.ts_model.specs.declared.plan.Reason.{Reason}
use Rattle.ts_model.specs.declared.plan.Reason.TheVariants as reason
use Rattle.ts_model.specs.declared.plan.Treatment.{Treatment}
use Rattle.ts_model.specs.declared.plan.Treatment.TheVariants.{Copied, Agreed, NewDirectory, Skipped}
use Rattle.ts_model.specs.declared.plan.Entry.{Entry}
use Rattle.ts_model.specs.declared.plan.Kind.{Kind}
use Rattle.ts_model.specs.declared.plan.Kind.TheVariants.{Piece, Commit, Mark}
use Rattle.ts_model.specs.declared.plan.Action.{Action}
use Rattle.ts_model.specs.declared.plan.Plan.{Plan}
use Rattle.ts_model.specs.declared.plan.PlanRule.{PlanRule}
use Rattle.ts_model.specs.declared.plan.PlanRule.TheVariants.{Limits, EntriesAscend, ReasonsHold, EntriesComplete, PredsAscend, OneCommit}
use Rattle.ts_model.specs.declared.plan.PlanRule.TheVariants.{PiecesLawful, PiecesComplete, OneMark, PiecesFirst, CommitFirst, DirFirst}

-- ---- what a plan says

abbrev pub EntryIs : Plan → ℕ → Entry → Type 0
EntryIs plan e entry = slice_get plan.entries e ≡ Some entry

abbrev pub ActionIs : Plan → ℕ → Action → Type 0
ActionIs plan i action = slice_get plan.actions i ≡ Some action

abbrev pub KindIs : Plan → ℕ → Kind → Type 0
KindIs plan i kind = (action : Action) × ActionIs plan i action × (action.kind ≡ kind)

-- i waits for j
abbrev pub Waits : Plan → ℕ → ℕ → Type 0
Waits plan i j = (action : Action) × ActionIs plan i action × Contains action.preds j

abbrev pub copied_side : Treatment → Option Side
copied_side (Copied from) = Some from
copied_side Agreed = None
copied_side NewDirectory = None
copied_side Skipped = None

-- the side that an entry is copied from
abbrev pub source : Reason → Option Side
source r = copied_side (treatment r)

abbrev pub is_side : Side → Option Side → Bool
is_side on None = false
is_side side.First (Some side.First) = true
is_side side.First (Some side.Second) = false
is_side side.Second (Some side.First) = false
is_side side.Second (Some side.Second) = true

-- whether an entry is copied from this side
abbrev pub is_from : Side → Reason → Bool
is_from on r = is_side on (source r)

-- the replica that isn't this one
abbrev pub other : Side → Side
other side.First = side.Second
other side.Second = side.First

abbrev pub Copies : Plan → ℕ → Entry → Side → Type 0
Copies plan e entry from = EntryIs plan e entry × (source entry.reason ≡ Some from)

abbrev pub IsCopied : Plan → ℕ → Type 0
IsCopied plan e = (entry : Entry) × (from : Side) × Copies plan e entry from

-- entry e is brought up to date in the archive
abbrev pub IsMarked : Plan → ℕ → Type 0
IsMarked plan e = (entry : Entry) × EntryIs plan e entry × (¬ IsSkipped entry.reason)

-- ---- pieces

abbrev pub piece_size : ℕ
piece_size = 1048576

-- a lawful range of a file of this size
pub record IsRange (size offset len : ℕ) : Type 0 where
  pub aligned : offset % piece_size ≡ 0
  pub within : offset < size
  pub full : len ≡ min piece_size (size - offset)

-- a piece of entry e: a lawful range of a file of the source, at the entry's path or below it
abbrev pub IsPiece : Snapshot → Plan → ℕ → ℕ → ℕ → Path → Type 0
IsPiece s plan e offset len p =
    (entry : Entry) × (from : Side) × (stamp : Stamp)
    × Copies plan e entry from × IsAbove entry.path p × (replica s from p ≡ File stamp) × IsRange stamp.size offset len

-- ---- the rules

abbrev pub entry_limit : ℕ
entry_limit = 1048576

abbrev pub action_limit : ℕ
action_limit = 1048576

abbrev pub pred_limit : ℕ
pred_limit = 4194304

pub record WithinLimits (plan : Plan) : Type 0 where
  pub entries : length plan.entries ≤ entry_limit
  pub actions : length plan.actions ≤ action_limit
  pub preds : sum_by (λ a. length a.preds) plan.actions ≤ pred_limit

-- the entry at this place doesn't come after the one before it
abbrev pub IsOutOfOrder : List Entry → ℕ → Type 0
IsOutOfOrder entries place = (k : ℕ) × (before : Entry) × (entry : Entry) × (place ≡ k + 1)
    × (slice_get entries k ≡ Some before) × (slice_get entries place ≡ Some entry) × (¬ IsBefore before.path entry.path)

abbrev pub HasWrongReason : Snapshot → List Entry → ℕ → Type 0
HasWrongReason s entries place = (entry : Entry) × (slice_get entries place ≡ Some entry) × (¬ HasReason s entry.path entry.reason)

-- a path with a reason is no entry; the place is the number of entries before it
abbrev pub Lacks : Snapshot → List Entry → ℕ → Type 0
Lacks s entries place = (p : Path) × (r : Reason) × HasReason s p r
    × ((k : ℕ) (entry : Entry) → slice_get entries k ≡ Some entry → entry.path ≢ p)
    × (place ≡ count_by (λ e. is_lt (path_cmp e.path p)) entries)

-- strictly ascending, and each below n
abbrev pub AscendBelow : ℕ → List ℕ → Type 0
AscendBelow n [] = Unit {0}
AscendBelow n (x ∷ []) = x < n
AscendBelow n (x ∷ y ∷ zs) = (x < y) × AscendBelow n (y ∷ zs)

-- P holds of an earlier action
abbrev pub Earlier : Plan → ℕ → (Kind → Type 0) → Type 0
Earlier plan i P = (j : ℕ) × (kind : Kind) × (j < i) × KindIs plan j kind × P kind

-- not just each entry that wants such an action has one: one is unwanted or comes twice, or an entry has none
abbrev pub NotOneEach : Plan → (ℕ → Kind) → (ℕ → Type 0) → ℕ → Type 0
NotOneEach plan kind Wants place =
    ((e : ℕ) × KindIs plan place (kind e) × ((¬ Wants e) ⊎ Earlier plan place (λ k. k ≡ kind e)))
    ⊎ ((e : ℕ) × (place ≡ length plan.actions + e) × Wants e × ((i : ℕ) → ¬ KindIs plan i (kind e)))

-- d is the nearest entry with reason Dir strictly above the path of entry e
pub record NearestDir (plan : Plan) (e d : ℕ) : Type 0 where
  pub below : Entry
  pub is_below : EntryIs plan e below
  pub dir : Entry
  pub is_dir : EntryIs plan d dir
  pub new_dir : dir.reason ≡ reason.Dir
  pub above : IsAbove dir.path below.path
  pub strictly : dir.path ≢ below.path
  pub nearest : (k : ℕ) (other : Entry) → EntryIs plan k other → other.reason ≡ reason.Dir → IsAbove other.path below.path → other.path ≢ below.path
      → IsAbove other.path dir.path

-- the rules count from 1, in the order in which they are looked at
abbrev pub rule_number : PlanRule → ℕ
rule_number Limits = 1
rule_number EntriesAscend = 2
rule_number ReasonsHold = 3
rule_number EntriesComplete = 4
rule_number PredsAscend = 5
rule_number OneCommit = 6
rule_number PiecesLawful = 7
rule_number PiecesComplete = 8
rule_number OneMark = 9
rule_number PiecesFirst = 10
rule_number CommitFirst = 11
rule_number DirFirst = 12

abbrev pub Wrong : Snapshot → Plan → PlanRule → ℕ → Type 0
Wrong s plan Limits place = (place ≡ 0) × (¬ WithinLimits plan)
Wrong s plan EntriesAscend place = IsOutOfOrder plan.entries place
Wrong s plan ReasonsHold place = HasWrongReason s plan.entries place
Wrong s plan EntriesComplete place = Lacks s plan.entries place
-- an action waits only for actions before it
Wrong s plan PredsAscend place = (action : Action) × ActionIs plan place action × (¬ AscendBelow place action.preds)
Wrong s plan OneCommit place = NotOneEach plan Commit (IsCopied plan) place
Wrong s plan PiecesLawful place = (e offset len : ℕ) × (p : Path) × KindIs plan place (Piece e offset len p) × (¬ IsPiece s plan e offset len p)
-- each lawful piece once
Wrong s plan PiecesComplete place =
    ((e offset len : ℕ) × (p : Path) × KindIs plan place (Piece e offset len p)
    × Earlier plan place (λ kind. (other : ℕ) × (kind ≡ Piece e offset other p)))
    ⊎ ((e offset len : ℕ) × (p : Path) × (place ≡ length plan.actions + e) × IsPiece s plan e offset len p
    × ((i other : ℕ) → ¬ KindIs plan i (Piece e offset other p)))
Wrong s plan OneMark place = NotOneEach plan Mark (IsMarked plan) place
-- a commit waits for the pieces of its entry
Wrong s plan PiecesFirst place =
    (e i offset len : ℕ) × (p : Path) × KindIs plan place (Commit e) × KindIs plan i (Piece e offset len p) × (¬ Waits plan place i)
-- a mark waits for the commit of its entry
Wrong s plan CommitFirst place = (e i : ℕ) × KindIs plan place (Mark e) × KindIs plan i (Commit e) × (¬ Waits plan place i)
-- a mark waits for the mark of the nearest new directory above it
Wrong s plan DirFirst place = (e d i : ℕ) × KindIs plan place (Mark e) × NearestDir plan e d × KindIs plan i (Mark d) × (¬ Waits plan place i)

pub record Broken (s : Snapshot) (plan : Plan) (rule : PlanRule) (place : ℕ) : Type 0 where
  pub earlier : (r : PlanRule) (k : ℕ) → rule_number r < rule_number rule → ¬ Wrong s plan r k
  pub wrong : Wrong s plan rule place
  pub least : (k : ℕ) → k < place → ¬ Wrong s plan rule k

abbrev pub Valid : Snapshot → Plan → Type 0
Valid s plan = (rule : PlanRule) (place : ℕ) → ¬ Wrong s plan rule place
