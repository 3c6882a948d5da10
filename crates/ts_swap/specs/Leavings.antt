-- What calls on the spots of a swap leave, and what replacing and recovery leave.
--     Leaves call old new r           what a single call leaves, where the spots are known
--     Counts old new r                the count of failures grows by one at a failure, and only there
--     HasReplaced tree old new        the new tree lies at the target, where the spots are known
--     Replaces tree old new r         what replacing leaves
--     MovesIn old new r               what it leaves where what lies at the new spot is put in place
--     MakesCalls calls old new r      these calls were made, or one of them failed
--     Recovers old new r              what recovery leaves
--     IsInSwap original tree s        where a replacement of the original by the tree may stand, stopped or ended
--     SettlesSwap original tree s left        what stood somewhere in a replacement is settled
--     AtEachMoment Says old before after      what a stop may have left since then, where the spots are known
--     LeavesSettled tree start before after old new     recovery settles what a stop in a replacement may have left
--     LeavesInSwap tree start before after old passed more    and leaves it, at each moment, somewhere in the replacement
use Rattle.std.specs.Prelude.{◌≡◌, ◌≢◌, ◌⊎◌, ℕ, ◌+◌, ◌<◌, ◌≤◌, Bool, true, false, List, [], ◌∷◌, ◌++◌, Option, Some, None, IfSome, Result, MatchResult}
use Rattle.std.specs.List.{AllByRecursion}
use Rattle.ts_model.specs.Trees.{Listing}
use Rattle.ts_model.specs.Swap.{Spots, Call, Remove, after_call, MayFail, MayStop, recovery}
use Rattle.ts_model.specs.Swap as model
use Rattle.ts_swap.specs.declared.places.Spot.{Spot}
use Rattle.ts_swap.specs.declared.places.Spot.TheVariants.{Target, New, Old}

abbrev pub spot_of : Spot → model.Spot
spot_of Target = model.Target
spot_of New = model.New
spot_of Old = model.Old

-- where the spots are known before, they are known after, and this is said of both
abbrev pub OnSpots : (Spots → Spots → Type 0) → Option Spots → Option Spots → Type 0
OnSpots Says None new = new ≡ None
OnSpots Says (Some s) new = (left : Spots) × (new ≡ Some left) × Says s left

abbrev pub Leaves : {A E : Type 0} → Call → Option Spots → Option Spots → Result A E → Type 0
Leaves call old new r = MatchResult r (λ _. OnSpots (λ s left. left ≡ after_call s call) old new) (λ _. OnSpots (λ s left. MayFail s call left) old new)

-- a look at a spot tells whether something lies there
abbrev pub Tells : Bool → Listing (List ℕ) → Type 0
Tells true rows = rows ≢ []
Tells false rows = rows ≡ []

-- ---- the count of failures

-- where a count of failures ends
abbrev pub last : ℕ
last = 18446744073709551615

-- it grows by one, or stays at its end
abbrev pub Grows : ℕ → ℕ → Type 0
Grows before after = (after ≡ before + 1) ⊎ ((after ≡ before) × (last ≤ before))

abbrev pub Counts : {A E : Type 0} → ℕ → ℕ → Result A E → Type 0
Counts old new r = MatchResult r (λ _. new ≡ old) (λ _. Grows old new)

-- a call failed
abbrev pub HasFailed : ℕ → ℕ → Type 0
HasFailed before after = (before < after) ⊎ (last ≤ before)

-- one call alone failed, or none
abbrev pub FailedAtMostOnce : ℕ → ℕ → Type 0
FailedAtMostOnce before after = (after ≤ before + 1) × (after < last)

-- ---- replacing

-- the new tree lies at the target
abbrev pub IsReplaced : Listing (List ℕ) → Spots → Type 0
IsReplaced tree left = (left.target ≡ tree) × (left.new ≡ [])

-- the original lies at the target, and nothing aside
abbrev pub IsOriginal : Spots → Spots → Type 0
IsOriginal s left = (left.target ≡ s.target) × (left.old ≡ [])

abbrev pub KeepsOriginal : Option Spots → Option Spots → Type 0
KeepsOriginal old new = OnSpots IsOriginal old new

-- nothing lies at the target; the original lies aside, whole, and so does the new tree
abbrev pub IsAside : Listing (List ℕ) → Spots → Spots → Type 0
IsAside tree s left = (left ≡ record { target = []; new = tree; old = s.target }) × (s.target ≢ []) × (tree ≢ [])

-- what was set aside is back at the target
abbrev pub IsBack : Spots → Spots → Type 0
IsBack s left = (left.target ≡ s.old) × (left.old ≡ [])

-- whatever lies at the new spot, the others are as they were
abbrev pub KeepsOthers : Spots → Spots → Type 0
KeepsOthers s left = (left.target ≡ s.target) × (left.old ≡ s.old)

abbrev pub IsSetAside : Bool → Spots → Spots → Type 0
IsSetAside had s left = (left ≡ record { target = []; new = s.new; old = s.target }) × Tells had s.target

abbrev pub IsPut : Spots → Spots → Type 0
IsPut s left = left ≡ record { target = s.new; new = []; old = s.old }

-- whatever lay there before
abbrev pub HasReplaced : Listing (List ℕ) → Option Spots → Option Spots → Type 0
HasReplaced tree old new = OnSpots (λ _ left. IsReplaced tree left) old new

abbrev pub Replaces : {A E : Type 0} → Listing (List ℕ) → Option Spots → Option Spots → Result A E → Type 0
Replaces tree old new r = MatchResult r (λ _. HasReplaced tree old new) (λ _. OnSpots (λ s left. IsOriginal s left ⊎ IsAside tree s left) old new)

-- the same of what lies at the new spot, in place of a tree
abbrev pub MovesIn : {A E : Type 0} → Option Spots → Option Spots → Result A E → Type 0
MovesIn old new r = MatchResult r (λ _. OnSpots (λ s left. IsReplaced s.new left) old new) (λ _. OnSpots (λ s left. IsOriginal s left ⊎ IsAside s.new s left) old new)

-- ---- recovery

abbrev pub after_calls : Spots → List Call → Spots
after_calls s [] = s
after_calls s (call ∷ calls) = after_calls (after_call s call) calls

abbrev pub Looks : Bool → Bool → Bool → Spots → Type 0
Looks target new old s = Tells target s.target × Tells new s.new × Tells old s.old

-- the call by which a spot is cleared, where something lies there
abbrev pub removal : model.Spot → Bool → List Call
removal at true = Remove at ∷ []
removal at false = []

-- all of these calls were made
abbrev pub Does : List Call → Spots → Spots → Type 0
Does calls s left = left ≡ after_calls s calls

-- one of these calls failed, after those before it were made
abbrev pub Stumbles : List Call → Spots → Spots → Type 0
Stumbles [] s left = left ≡ s
Stumbles (call ∷ calls) s left = MayFail s call left ⊎ Stumbles calls (after_call s call) left

-- all of these calls were made; or one of them failed, after those before it were made
abbrev pub MakesCalls : {A E : Type 0} → List Call → Option Spots → Option Spots → Result A E → Type 0
MakesCalls calls old new r = MatchResult r (λ _. OnSpots (Does calls) old new) (λ _. OnSpots (Stumbles calls) old new)

-- what recovery does, it does by what lies where
abbrev pub BySight : (List Call → Spots → Spots → Type 0) → Spots → Spots → Type 0
BySight Says s left = (target new old : Bool) × Looks target new old s × Says (recovery target new old) s left

abbrev pub Recovers : {A E : Type 0} → Option Spots → Option Spots → Result A E → Type 0
Recovers old new r = MatchResult r (λ _. OnSpots (BySight Does) old new) (λ _. OnSpots (λ s left. (left ≡ s) ⊎ BySight Stumbles s left) old new)

-- ---- where a replacement may stand

-- the original lies at the target, and nothing aside
abbrev pub IsBefore : Listing (List ℕ) → Spots → Type 0
IsBefore original s = (s.target ≡ original) × (s.old ≡ [])

-- nothing lies at the target; the original lies aside, whole, and something is to come in its place
abbrev pub IsBetween : Listing (List ℕ) → Spots → Type 0
IsBetween original s = (s.target ≡ []) × (s.old ≡ original) × (original ≢ []) × (s.new ≢ [])

-- the new tree lies at the target
abbrev pub IsAfter : Listing (List ℕ) → Spots → Type 0
IsAfter tree s = (s.target ≡ tree) × (s.new ≡ [])

abbrev pub IsInSwap : Listing (List ℕ) → Listing (List ℕ) → Spots → Type 0
IsInSwap original tree s = IsBefore original s ⊎ (IsBetween original s ⊎ IsAfter tree s)

-- what stood somewhere in the replacement still does
abbrev pub StaysInSwap : Listing (List ℕ) → Listing (List ℕ) → Spots → Spots → Type 0
StaysInSwap original tree s left = IsInSwap original tree s → IsInSwap original tree left

-- the original or the new tree lies at the target, whole, and nothing anywhere else
abbrev pub IsSettled : Listing (List ℕ) → Listing (List ℕ) → Spots → Type 0
IsSettled original tree s = ((s.target ≡ original) ⊎ (s.target ≡ tree)) × (s.new ≡ []) × (s.old ≡ [])

-- what stood somewhere in the replacement is settled
abbrev pub SettlesSwap : Listing (List ℕ) → Listing (List ℕ) → Spots → Spots → Type 0
SettlesSwap original tree s left = IsInSwap original tree s → IsSettled original tree left

-- ---- stops

-- the moments until then, and others after them, of each of which this is said
abbrev pub Passes : (Spots → Type 0) → List Spots → List Spots → Type 0
Passes Says before after = (added : List Spots) × (after ≡ before ++ added) × AllByRecursion Says added

-- where the spots are known, this is said of them and of what a stop at each moment since then may have left
abbrev pub AtEachMoment : (Spots → Spots → Type 0) → Option Spots → List Spots → List Spots → Type 0
AtEachMoment Says old before after = IfSome old (λ s. Passes (Says s) before after)

-- the last of these moments
abbrev pub IsLast : Spots → List Spots → Type 0
IsLast s moments = (earlier : List Spots) × (moments ≡ earlier ++ s ∷ [])

-- what a stop may leave between two of these calls, or in one of them
abbrev pub IsDuring : List Call → Spots → Spots → Type 0
IsDuring [] s left = left ≡ s
IsDuring (call ∷ calls) s left = MayStop s call left ⊎ IsDuring calls (after_call s call) left

-- a replacement of these spots' target by the tree stands somewhere and, where the original lies aside, has the tree whole at the new spot
abbrev pub IsStopped : Listing (List ℕ) → Spots → Spots → Type 0
IsStopped tree s left = IsInSwap s.target tree left × (IsBetween s.target left → left.new ≡ tree)

-- a stop may have left this: what lay there at the start, or what lay there at a moment since then
abbrev pub MayHaveLeft : Spots → List Spots → List Spots → Spots → Type 0
MayHaveLeft start before after s = (s ≡ start) ⊎ ((earlier later : List Spots) × (after ≡ before ++ (earlier ++ s ∷ later)))

-- where the spots that a replacement by the tree began at are known, recovery settles what a stop since then may have left
abbrev pub LeavesSettled : Listing (List ℕ) → Option Spots → List Spots → List Spots → Option Spots → Option Spots → Type 0
LeavesSettled tree start before after old new =
    IfSome start (λ s. OnSpots (λ found left. MayHaveLeft s before after found → IsSettled s.target tree left) old new)

-- and at each moment it leaves it somewhere in the replacement
abbrev pub LeavesInSwap : Listing (List ℕ) → Option Spots → List Spots → List Spots → Option Spots → List Spots → List Spots → Type 0
LeavesInSwap tree start before after old passed more =
    IfSome start (λ s. AtEachMoment (λ found left. MayHaveLeft s before after found → IsInSwap s.target tree left) old passed more)
