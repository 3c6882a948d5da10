-- What the checker answers.
--     HoldBelow s plan n      no rule before the n-th is broken anywhere
--     IsTold s plan fault     a plan that is called broken is broken there first
--     IsSafe s plan           what every run of the plan keeps, where it ends, that it can be resumed, and to which end
use Rattle.std.specs.Prelude.{ℕ, ◌<◌}
use Rattle.ts_laws.specs.Laws.{EndsAlike}
use Rattle.ts_model.specs.Sync.{Snapshot}
use Rattle.ts_model.specs.Headline.{OnePair, OriginalOrFinal, ArchiveAgrees, Completes, NotStuck}
use Rattle.ts_model.specs.Resume.{CanResume, CutsAreLegal, ArchiveIsClosed}
use Rattle.ts_model.specs.Plans.{Wrong, Broken, rule_number}
use Rattle.ts_model.specs.declared.plan.PlanRule.{PlanRule}
use Rattle.ts_model.specs.declared.plan.Plan.{Plan}
use Rattle.ts_check.specs.declared.fault.CheckFault.{CheckFault}
use Rattle.ts_check.specs.declared.fault.CheckFault.TheVariants as fault

abbrev pub HoldBelow : Snapshot → Plan → ℕ → Type 0
HoldBelow s plan n = (rule : PlanRule) (place : ℕ) → rule_number rule < n → ¬ Wrong s plan rule place

abbrev pub IsTold : Snapshot → Plan → CheckFault → Type 0
IsTold s plan fault.OutOfMemory = Unit {0}
IsTold s plan (fault.Broken rule place) = Broken s plan rule place

abbrev pub fault_number : CheckFault → ℕ
fault_number fault.OutOfMemory = 1
fault_number (fault.Broken rule place) = 13

pub record IsSafe (s : Snapshot) (plan : Plan) : Type 0 where
  pub one_pair : OnePair s
  pub original_or_final : OriginalOrFinal s plan
  pub archive_agrees : ArchiveAgrees s plan
  pub completes : Completes s plan
  pub not_stuck : NotStuck s plan
  pub can_resume : CanResume s plan
  pub cuts_are_legal : CutsAreLegal s plan
  pub archive_is_closed : ArchiveIsClosed s plan
  pub ends_alike : EndsAlike s plan
