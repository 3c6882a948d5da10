-- What a plan is made from and checked against, and what `plan` and `check` print.
--     checkup_of snapshot plan       the plan, with the archive, the prints and the rules of a snapshot
--     IsSeenIn w pair snapshot       a snapshot has scans of a pair's replicas, and the archive and the rules that were read for it
--     IsPlanned k                    the plan is one that `resume` makes for what it goes with
--     IsUnplanned snapshot fault     why there is no plan: memory ran out, or it would be past a limit
--     IsUnchecked k fault            why a plan isn't taken: memory ran out, or it breaks this rule first, and here
--     IsPrintout k written status    the text of a plan that `resume` makes, with status 0
--     IsPrintoutOf s written status  the same of some plan for this snapshot
--     IsPrintoutAt w pair written status  the same of scans of a pair's replicas, and of the archive and the rules that were read for it
--     IsCheckupAt w pair name k     the plan that was read from this file, with the archive, the prints and the rules of a pair
--     Judges Is old new result       a plan of which `Is` is said is valid, and its line was written; or it breaks a rule, or there was a fault
--     Prints Says old new result     a text with this said of it and of the status was written; or there was a fault, and nothing or a beginning of one was
--     PrintsAlone Says ..            the same, and nothing was written to standard error
use Rattle.std.specs.Prelude.{◌≡◌, ◌⊎◌, ℕ, List, [], ◌∷◌, Option, Result, Ok, Err, codes}
use Rattle.std.specs.Io.KnownBytes.{Appends}
use Rattle.ts_text.specs.Sources.{AppendsFront}
use Rattle.ts_model.specs.Plans.{Broken, Valid}
use Rattle.ts_model.specs.Texts.{IsPlan, IsPlanText, plan_lines, text}
use Rattle.ts_model.specs.declared.plan.Plan.{Plan}
use Rattle.ts_model.specs.declared.plan.PlanRule.{PlanRule}
use Rattle.ts_check.specs.Checkup.{Checkup, snapshot_of}
use Rattle.ts_plan_build.specs.Planned.{IsPastLimit}
use Rattle.ts_plan_build.specs.Resumed.{EndsAsBegun, IsTooMuch}
use Rattle.ts_command.specs.declared.job.Pair.{Pair}
use Rattle.ts_perform.specs.Inputs.{IsReadAt, IsSeenFor}
use Rattle.ts_perform.specs.Trials.{IsQuiet}
use Rattle.ts_perform.specs.Worlds.{World}
use Rattle.ts_explain.specs.declared.fault.PerformFault.{PerformFault}
use Rattle.ts_explain.specs.declared.fault.PerformFault.TheVariants as fault
use Rattle.ts_perform.specs.declared.snapshot.Snapshot.{Snapshot}

abbrev pub checkup_of : Snapshot → Plan → Checkup
checkup_of s plan = record { plan = plan; archive = s.archive; first = s.first; second = s.second; rules = s.holds }

abbrev pub IsSeenIn : {S F P A L : Type 0} → World S F P A L → Pair → Snapshot → Type 0
IsSeenIn w pair s = IsSeenFor w pair s.archive s.holds s.first s.second

pub record IsPlanned (k : Checkup) : Type 0 where
  pub valid : Valid (snapshot_of k) k.plan
  pub fits : IsPlan k.plan
  pub ends : EndsAsBegun (snapshot_of k) k.plan
  pub within : ¬ IsPastLimit k.first k.second k.plan.entries

abbrev pub IsUnplanned : Snapshot → PerformFault → Type 0
IsUnplanned s e = (e ≡ fault.OutOfMemory) ⊎ ((e ≡ fault.TooMuch) × IsTooMuch s.archive s.first s.second s.holds)

abbrev pub IsUnchecked : Checkup → PerformFault → Type 0
IsUnchecked k e = (e ≡ fault.OutOfMemory) ⊎ ((rule : PlanRule) × (place : ℕ) × (e ≡ fault.Broken rule place) × Broken (snapshot_of k) k.plan rule place)

abbrev pub IsPrintout : Checkup → List ℕ → ℕ → Type 0
IsPrintout k written status = IsPlanned k × (written ≡ text (plan_lines k.plan)) × (status ≡ 0)

abbrev pub IsPrintoutOf : Snapshot → List ℕ → ℕ → Type 0
IsPrintoutOf s written status = (plan : Plan) × IsPrintout (checkup_of s plan) written status

-- the same of scans of a pair's replicas, and of the archive and the rules that were read for it
abbrev pub IsPrintoutAt : {S F P A L : Type 0} → World S F P A L → Pair → List ℕ → ℕ → Type 0
IsPrintoutAt w pair written status = (k : Checkup) × IsSeenFor w pair k.archive k.rules k.first k.second × IsPrintout k written status

-- scans of a pair's replicas, the archive and the rules that were read for it, and the plan that was read from the file of this name
pub record IsCheckupAt {S F P A L : Type 0} (w : World S F P A L) (pair : Pair) (name : List ℕ) (k : Checkup) : Type 0 where
  pub seen : IsSeenFor w pair k.archive k.rules k.first k.second
  pub plan : IsReadAt w.finds IsPlanText name k.plan

abbrev pub valid_text : List ℕ
valid_text = text (codes "valid" ∷ [])

-- a plan of which this is said is valid
abbrev pub IsValidAt : (Checkup → Type 0) → Type 0
IsValidAt Is = (k : Checkup) × Is k × Valid (snapshot_of k) k.plan

-- or it breaks this rule first, and here
abbrev pub IsBrokenAt : (Checkup → Type 0) → PlanRule → ℕ → Type 0
IsBrokenAt Is rule place = (k : Checkup) × Is k × Broken (snapshot_of k) k.plan rule place

-- nothing was written, or a beginning of the line of a valid plan
abbrev pub IsValidBegun : (Checkup → Type 0) → (old new : Option (List ℕ)) → Type 0
IsValidBegun Is old new = (new ≡ old) ⊎ (IsValidAt Is × AppendsFront old new valid_text)

pub record IsUnjudged (Is : Checkup → Type 0) (old new : Option (List ℕ)) (e : PerformFault) : Type 0 where
  pub broken : (rule : PlanRule) (place : ℕ) → e ≡ fault.Broken rule place → IsBrokenAt Is rule place × (new ≡ old)
  pub other : IsQuiet e → IsValidBegun Is old new

abbrev pub Judges : (Checkup → Type 0) → (old new : Option (List ℕ)) → Result ℕ PerformFault → Type 0
Judges Is old new (Ok status) = IsValidAt Is × (status ≡ 0) × Appends old new valid_text
Judges Is old new (Err e) = IsUnjudged Is old new e

-- and nothing was written to standard error
abbrev pub JudgesAlone : (Checkup → Type 0) → (old new old_faults new_faults : Option (List ℕ)) → Result ℕ PerformFault → Type 0
JudgesAlone Is old new old_faults new_faults result = Judges Is old new result × (new_faults ≡ old_faults)

-- nothing was written, or a beginning of a text with this said of it and of some status
abbrev pub IsBegun : (List ℕ → ℕ → Type 0) → Option (List ℕ) → Option (List ℕ) → Type 0
IsBegun Says old new = (new ≡ old) ⊎ ((written : List ℕ) × (status : ℕ) × Says written status × AppendsFront old new written)

-- no plan is called broken by the fault: a broken one is said to be so in the text
abbrev pub Prints : (List ℕ → ℕ → Type 0) → Option (List ℕ) → Option (List ℕ) → Result ℕ PerformFault → Type 0
Prints Says old new (Ok status) = (written : List ℕ) × Says written status × Appends old new written
Prints Says old new (Err e) = IsQuiet e × IsBegun Says old new

-- and nothing was written to standard error
abbrev pub PrintsAlone : (List ℕ → ℕ → Type 0) → (old new old_faults new_faults : Option (List ℕ)) → Result ℕ PerformFault → Type 0
PrintsAlone Says old new old_faults new_faults result = Prints Says old new result × (new_faults ≡ old_faults)
