-- What decoding a plan tells of the bytes that a line reader has left.
use Rattle.std.specs.Prelude.{◌≡◌, ◌≢◌, ◌⊎◌, ℕ, List, ◌++◌, IfSome, Result, Ok, Err}
use Rattle.ts_model.specs.Texts.{Line, text, plan_lines, IsPlan, IsPlanText}
use Rattle.ts_model.specs.declared.plan.Plan.{Plan}
use Rattle.ts_text.specs.Lines.{Reading}
use Rattle.ts_text.specs.declared.fault.TextFault.{TextFault}
use Rattle.ts_text.specs.declared.fault.TextFault.TheVariants as text_fault
use Rattle.ts_text.specs.declared.state.State.TheVariants.{Refused}
use Rattle.ts_plan.specs.declared.fault.PlanFault.{PlanFault}
use Rattle.ts_plan.specs.declared.fault.PlanFault.TheVariants.{OutOfMemory, Failed, NotCanonical, PastLimit}
use Rattle.ts_plan.specs.Reading.{IsLarge, Begins}

-- the same fault of a plan's text
abbrev pub fault_of_text : TextFault → PlanFault
fault_of_text text_fault.OutOfMemory = OutOfMemory
fault_of_text text_fault.Failed = Failed
fault_of_text text_fault.NotCanonical = NotCanonical

-- the bytes begin as those of a plan past a limit, and of no plan within the limits
pub record IsPastLimit (bytes : List ℕ) : Type 0 where
  pub front : List Line
  pub rest : List ℕ
  pub split : bytes ≡ text front ++ rest
  pub begins : (plan : Plan) × IsLarge plan × Begins plan front
  pub none : (plan : Plan) → IsPlan plan → ¬ Begins plan front
  pub no_plan : (plan : Plan) → ¬ IsPlanText bytes plan

-- no plan's text, past a limit or not, and no line of it goes past one before what isn't canonical
pub record IsNoPlan (bytes : List ℕ) : Type 0 where
  pub none : (plan : Plan) → IsLarge plan → bytes ≢ text (plan_lines plan)
  pub within : ¬ IsPastLimit bytes

-- the plan that the bytes spell, or why they spell none
abbrev pub Decodes : Reading → Result Plan PlanFault → Reading → Type 0
Decodes old (Ok plan) new = IsPlan plan × IfSome old.left (λ bytes. IsPlanText bytes plan)
Decodes old (Err OutOfMemory) new = Unit {0}
Decodes old (Err Failed) new = (old.state ≡ Refused text_fault.Failed) ⊎ (new.failures ≢ old.failures)
Decodes old (Err NotCanonical) new = IfSome old.left IsNoPlan
Decodes old (Err PastLimit) new = IfSome old.left IsPastLimit
