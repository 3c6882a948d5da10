-- Words for the rules about what an action waits for.
use Rattle.std.specs.Prelude.{◌≡◌, ◌≢◌, ◌↔◌, ℕ, ◌+◌, ◌<◌, ◌≤◌, List, [], ◌∷◌, ◌++◌, length, map, Contains, Some, slice_get}
use Rattle.ts_name.specs.Paths.{Path}
use Rattle.ts_model.specs.Plans.{ActionIs, KindIs, Waits, AscendBelow, NearestDir}
use Rattle.ts_model.specs.declared.plan.Action.{Action}
use Rattle.ts_model.specs.declared.plan.Kind.TheVariants.{Piece, Commit, Mark}
use Rattle.ts_model.specs.declared.plan.Plan.{Plan}
use Rattle.ts_check.specs.Places.{no_action}

-- strictly ascending from low on, and below n
abbrev pub AscendFrom : ℕ → ℕ → List ℕ → Type 0
AscendFrom low n [] = Unit {0}
AscendFrom low n (x ∷ xs) = (low ≤ x) × (x < n) × AscendFrom (x + 1) n xs

-- the action's predecessors don't ascend, or aren't before it
abbrev pub HasBadPreds : Plan → ℕ → Type 0
HasBadPreds plan place = (action : Action) × ActionIs plan place action × (¬ AscendBelow place action.preds)

-- the action is a commit, and action i is a piece of its entry that it doesn't wait for
abbrev pub IsLateFor : Plan → ℕ → ℕ → Type 0
IsLateFor plan i place = (e offset len : ℕ) × (p : Path) × KindIs plan place (Commit e) × KindIs plan i (Piece e offset len p) × (¬ Waits plan place i)

-- a commit that doesn't wait for some piece of its entry
abbrev pub LacksPiece : Plan → ℕ → Type 0
LacksPiece plan place = (e i offset len : ℕ) × (p : Path) × KindIs plan place (Commit e) × KindIs plan i (Piece e offset len p) × (¬ Waits plan place i)

-- a mark that doesn't wait for the commit of its entry
abbrev pub LacksCommit : Plan → ℕ → Type 0
LacksCommit plan place = (e i : ℕ) × KindIs plan place (Mark e) × KindIs plan i (Commit e) × (¬ Waits plan place i)

-- a mark that doesn't wait for the mark of the nearest new directory above it
abbrev pub LacksDir : Plan → ℕ → Type 0
LacksDir plan place = (e d i : ℕ) × KindIs plan place (Mark e) × NearestDir plan e d × KindIs plan i (Mark d) × (¬ Waits plan place i)

-- action i stands at entry e
abbrev pub IsLinked : List ℕ → ℕ → ℕ → Type 0
IsLinked links e i = (slice_get links e ≡ Some i) × (i ≢ no_action)

-- a mark that doesn't wait for the action that stands at its entry
abbrev pub LacksLink : Plan → List ℕ → ℕ → Type 0
LacksLink plan links place = (e i : ℕ) × KindIs plan place (Mark e) × IsLinked links e i × (¬ Waits plan place i)

-- a mark that doesn't wait for the mark of its entry's nearest new directory, by the numbers of both
abbrev pub LacksVia : Plan → List ℕ → List ℕ → ℕ → Type 0
LacksVia plan nearest marks place = (e : ℕ) × KindIs plan place (Mark e) × ((d j : ℕ) × IsLinked nearest e d × IsLinked marks d j × (¬ Waits plan place j))

-- each predecessor beside the action that waits for it; the first action here has the number n
abbrev pub waits_from : ℕ → List Action → List (ℕ × ℕ)
waits_from n [] = []
waits_from n (action ∷ actions) = map (λ j. (j, n)) action.preds ++ waits_from (n + 1) actions

-- the actions that wait for action i, in ascending order
pub record AreSuccessors (plan : Plan) (i : ℕ) (numbers : List ℕ) : Type 0 where
  pub waiting : (j : ℕ) → Contains numbers j ↔ Waits plan j i
  pub ascending : AscendBelow (length plan.actions) numbers

-- for each action these are its successors
pub record AreAllSuccessors (plan : Plan) (lists : List (List ℕ)) : Type 0 where
  pub size : length lists ≡ length plan.actions
  pub each : (i : ℕ) (numbers : List ℕ) → slice_get lists i ≡ Some numbers → AreSuccessors plan i numbers
  pub preds_within : (j i : ℕ) → Waits plan j i → i < length plan.actions
