-- What a worker keeps between two tries.
--     IsTidy plan own          of these steps: what is claimed in them is ended, and what is done is released
--     AreTakes, AreReleases    the takes of a commit, the releases of what is done
--     ReleasesAll plan i b     in these steps action i is released to all that wait for it
--     IsTry plan i fault b     the steps b of one try of action i, which failed with this fault or didn't fail
--     MakesTry x p i fault q   between these passes one try of action i was made
--     AreFresh members         no worker has found a failure yet
--     HasRoomFor plan notes    nothing is noted, and there is room for what comes of each action
--     Listed, Noted            why each action failed is known, and what acts did is what folders tell
--     StayNoted, AreNoted      what the list of a worker adds to the faults that are noted
--     Swept                    the actions below this number were tried in order
--     IsSwept x own seen       all actions were tried in order, or the run may be stopped
--     KeepsList, KeepsNotes    a pass of this board is tidy, and Listed or Noted
use Rattle.std.specs.Prelude.{◌≡◌, ◌≢◌, ◌⊎◌, ℕ, ◌<◌, ◌≤◌, ◌*◌, ◌^◌, All, length, List, [], ◌∷◌, ◌++◌, Option, Some, IsSome, slice_get, vec_capacity}
use Rattle.atomic_table.specs.Seated.{TableId}
use Rattle.ts_model.specs.Plans.{Waits}
use Rattle.ts_model.specs.Runs.{Run, Has, claims, finishes, fails, releases, takes, word_after, IsPieceOf}
use Rattle.ts_model.specs.declared.plan.Plan.{Plan}
use Rattle.ts_model.specs.declared.step.Step.TheVariants.{Take, Release}
use Rattle.ts_board.specs.Runs.{StartsWith}
use Rattle.ts_board.specs.Calls.{IsPassAt, mine, seen}
use Rattle.ts_board.specs.declared.board.Pass.{Pass}
use Rattle.ts_board.specs.declared.law.Terms.{Terms}
use Rattle.ts_exec.specs.Failures.{Setting, AreTold, MayFail}
use Rattle.ts_exec.specs.declared.fault.ActFault.{ActFault}
use Rattle.ts_exec.specs.declared.crew.Failure.{Failure}
use Rattle.ts_exec.specs.declared.crew.Member.{Member}
use Rattle.ts_exec.specs.declared.crew.Notes.{Notes}

pub record IsTidy (plan : Plan) (own : Run) : Type 0 where
  pub ended : (i : ℕ) → Has own (claims i) → Has own (finishes i) ⊎ Has own (fails i)
  pub released : (k j : ℕ) → Has own (finishes k) → Waits plan j k → Has own (releases k j)
  pub taken : (k : ℕ) → Has own (takes k) → (c : ℕ) × IsPieceOf plan c k × Has own (claims c)

abbrev pub AreTakes : Plan → ℕ → Run → Type 0
AreTakes plan c [] = Unit {0}
AreTakes plan c (x ∷ xs) = ((k : ℕ) × (x ≡ Take c k) × IsPieceOf plan c k) × AreTakes plan c xs

-- nothing else is done in these steps
abbrev pub EndsOnly : ℕ → Run → Type 0
EndsOnly i block = (k : ℕ) → Has block (finishes k) → k ≡ i

abbrev pub AreReleases : ℕ → Run → Type 0
AreReleases i [] = Unit {0}
AreReleases i (x ∷ xs) = ((j : ℕ) × (x ≡ Release i j)) × AreReleases i xs

abbrev pub ReleasesAll : Plan → ℕ → Run → Type 0
ReleasesAll plan i own = (j : ℕ) → Waits plan j i → Has own (releases i j)

pub record IsTry (plan : Plan) (i : ℕ) (fault : Option ActFault) (block : Run) : Type 0 where
  pub tidy : IsTidy plan block
  pub done : (k : ℕ) → Has block (finishes k) → k ≡ i
  pub failed : (k : ℕ) → Has block (fails k) → (k ≡ i) × IsSome fault

-- the steps of the one try are the last of the pass's own, and what acts did in them is what folders tell
abbrev pub MakesTry : {S : Type 0} → Setting → Pass S → ℕ → Option ActFault → Pass S → Type 0
MakesTry x p i fault q = (block : Run) × (mine q ≡ mine p ++ block) × IsTry x.checkup.plan i fault block × AreTold x (seen q) block

abbrev pub AreFresh : List Member → Type 0
AreFresh members = All (λ (m : Member). m.failures.items ≡ []) members

abbrev pub HasRoomFor : Plan → Notes → Type 0
HasRoomFor plan notes = (length notes.faults.items ≡ length plan.actions) × (notes.results.items ≡ []) × (length plan.actions ≤ vec_capacity notes.results)

-- the number of the failed action is in the list
abbrev pub IsListed : ℕ → List Failure → Type 0
IsListed i failures = (m : ℕ) × (e : Failure) × (slice_get failures m ≡ Some e) × (e.action ≡ i)

-- what is in the list are actions that may have failed so after the steps that were seen
abbrev pub MayBe : Setting → Run → List Failure → Type 0
MayBe x seen failures = (m : ℕ) (e : Failure) → slice_get failures m ≡ Some e → (e.action < length x.checkup.plan.actions) × MayFail x seen e.action e.fault

-- of a pass's own steps, and what it has seen: each failed action is in the list, and what is in it may have failed so
pub record Listed (x : Setting) (own seen : Run) (failures : List Failure) : Type 0 where
  pub each : (i : ℕ) → Has own (fails i) → IsListed i failures
  pub may : MayBe x seen failures
  pub told : AreTold x seen own

-- at the place of the action stands a fault that it may have
abbrev pub HasFault : Setting → Run → List (Option ActFault) → ℕ → Type 0
HasFault x seen faults i = (f : ActFault) × (slice_get faults i ≡ Some (Some f)) × MayFail x seen i f

-- of a pass's own steps, and what it has seen: each failed action has its fault at its place
pub record Noted (x : Setting) (own seen : Run) (faults : List (Option ActFault)) : Type 0 where
  pub each : (i : ℕ) → Has own (fails i) → HasFault x seen faults i
  pub told : AreTold x seen own

-- where all in the list may have failed so after any steps, faults that may be had after them are still noted
abbrev pub StayNoted : Setting → List Failure → List (Option ActFault) → List (Option ActFault) → Type 0
StayNoted x failures old new = (r : Run) → MayBe x r failures → (i : ℕ) → HasFault x r old i → HasFault x r new i

-- and each action in the list has its fault noted
abbrev pub AreNoted : Setting → List Failure → List (Option ActFault) → Type 0
AreNoted x failures new = (r : Run) → MayBe x r failures → (i : ℕ) → IsListed i failures → HasFault x r new i

-- what a worker has between two tries
pub record KeepsList {S : Type 0} (id : TableId) (t : Terms) (x : Setting) (pass : Pass S) (failures : List Failure) : Type 0 where
  pub of_board : IsPassAt id t pass
  pub tidy : IsTidy x.checkup.plan (mine pass)
  pub listed : Listed x (mine pass) (seen pass) failures

-- what workers leave behind together
pub record KeepsNotes {S : Type 0} (id : TableId) (t : Terms) (x : Setting) (pass : Pass S) (faults : List (Option ActFault)) : Type 0 where
  pub of_board : IsPassAt id t pass
  pub tidy : IsTidy x.checkup.plan (mine pass)
  pub room : length faults ≡ length x.checkup.plan.actions
  pub noted : Noted x (mine pass) (seen pass) faults

-- both passes have the same share of the board
abbrev pub IsSameShare : {S : Type 0} → Pass S → Pass S → Type 0
IsSameShare p q = q.seat.me.0.part * 2 ^ p.seat.me.0.cut ≡ p.seat.me.0.part * 2 ^ q.seat.me.0.cut

-- the action is claimed, or it waited for something when all that was done before it had been released
abbrev pub WasTried : Plan → Run → Run → ℕ → Type 0
WasTried plan own seen j =
    Has own (claims j)
    ⊎ ((then : Run) × StartsWith seen then × (word_after plan then j ≢ 0) × ((k : ℕ) → Waits plan j k → Has own (finishes k) → Has then (releases k j)))

abbrev pub Swept : Plan → ℕ → Run → Run → Type 0
Swept plan n own seen = (j : ℕ) → j < n → WasTried plan own seen j

abbrev pub IsSwept : Setting → Run → Run → Type 0
IsSwept x own seen = Swept x.checkup.plan (length x.checkup.plan.actions) own seen ⊎ x.stops
