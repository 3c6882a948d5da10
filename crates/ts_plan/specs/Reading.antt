-- What a reader of plans does with a line, and what it keeps.
use Rattle.std.specs.Prelude.{◌≡◌, ◌≢◌, ◌^◌, ◌<◌, List, [], ◌∷◌, ◌++◌, length, Some, None, Result, Ok, Err}
use Rattle.std.specs.List.{AllByRecursion}
use Rattle.ts_model.specs.Plans.{WithinLimits}
use Rattle.ts_model.specs.Texts.{Line, plan_lines, PathFits, KindFits, IsPlan}
use Rattle.ts_model.specs.declared.plan.Plan.{Plan}
use Rattle.ts_plan.specs.declared.fault.PlanFault.{PlanFault}
use Rattle.ts_plan.specs.declared.fault.PlanFault.TheVariants.{OutOfMemory, Failed, NotCanonical, PastLimit}
use Rattle.ts_plan.specs.declared.progress.Part.TheVariants.{Start}
use Rattle.ts_plan.specs.declared.line.PlanLine.{PlanLine}
use Rattle.ts_plan.specs.Progress.{Progress, plan_of, fed, step}

-- a plan but for the limits
pub record IsLarge (plan : Plan) : Type 0 where
  pub counts : (length plan.entries < 2 ^ 64) × (length plan.actions < 2 ^ 64)
  pub entries : AllByRecursion (λ e. PathFits e.path) plan.entries
  pub kinds : AllByRecursion (λ a. KindFits a.kind) plan.actions
  pub preds : AllByRecursion (λ a. AllByRecursion (λ j. j < 2 ^ 32) a.preds) plan.actions

-- what is read is a plan's beginning
pub record IsProgress (p : Progress) : Type 0 where
  pub plan : IsPlan (plan_of p)
  pub first : p.last ≡ None → p.actions ≡ []
  pub none : p.part ≡ Start → (p.entries ≡ []) × (p.last ≡ None)

-- the lines of the plan begin so
abbrev pub Begins : Plan → List Line → Type 0
Begins plan front = (rest : List Line) × (plan_lines plan ≡ front ++ rest)

-- some plan's lines begin with those that were read
abbrev pub IsBegun : Progress → Type 0
IsBegun p = (plan : Plan) × IsPlan plan × Begins plan (fed p)

-- the reader takes the line, or doesn't change
abbrev pub Takes : Progress → PlanLine → Result (Unit {0}) PlanFault → Progress → Type 0
Takes old l (Ok x) new = step old l ≡ Some new
Takes old l (Err OutOfMemory) new = new ≡ old
Takes old l (Err Failed) new = ⊥
Takes old l (Err NotCanonical) new = (new ≡ old) × (step old l ≡ None)
Takes old l (Err PastLimit) new = (new ≡ old) × ((next : Progress) × (step old l ≡ Some next) × (¬ WithinLimits (plan_of next)))

-- The same by the bytes of the line. It is refused only where no plan's lines begin with those so far and this one, past
-- a limit or not; and it is past a limit only where those of some plan do, but of none within the limits.
abbrev pub ReadsNext : Progress → Line → Result (Unit {0}) PlanFault → Progress → Type 0
ReadsNext old line (Ok x) new = fed new ≡ fed old ++ line ∷ []
ReadsNext old line (Err OutOfMemory) new = new ≡ old
ReadsNext old line (Err Failed) new = ⊥
ReadsNext old line (Err NotCanonical) new = (new ≡ old) × ((plan : Plan) → IsLarge plan → ¬ Begins plan (fed old ++ line ∷ []))
ReadsNext old line (Err PastLimit) new =
    (new ≡ old) × ((plan : Plan) → IsPlan plan → ¬ Begins plan (fed old ++ line ∷ [])) × ((plan : Plan) × IsLarge plan × Begins plan (fed old ++ line ∷ []))

-- the plan whose lines are those that were read, or that there is none
abbrev pub Finishes : Progress → Result Plan PlanFault → Type 0
Finishes p (Ok plan) = IsPlan plan × (plan_lines plan ≡ fed p)
Finishes p (Err OutOfMemory) = Unit {0}
Finishes p (Err Failed) = ⊥
Finishes p (Err NotCanonical) = (plan : Plan) → IsLarge plan → plan_lines plan ≢ fed p
Finishes p (Err PastLimit) = ⊥
