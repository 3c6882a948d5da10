-- The faults of bundles.
use Rattle.std.specs.Prelude.{◌≡◌, ◌≢◌, ℕ, Result, Ok, Err}
use Rattle.ts_text.specs.declared.fault.TextFault.{TextFault}
use Rattle.ts_text.specs.declared.fault.TextFault.TheVariants as text
use Rattle.ts_tree.specs.declared.fault.TreeFault.{TreeFault}
use Rattle.ts_tree.specs.declared.fault.TreeFault.TheVariants as tree
use Rattle.ts_print.specs.declared.fault.PrintFault.{PrintFault}
use Rattle.ts_print.specs.declared.fault.PrintFault.TheVariants as print
use Rattle.ts_hold.specs.declared.faults.HoldFault.{HoldFault}
use Rattle.ts_hold.specs.declared.faults.HoldFault.TheVariants as hold
use Rattle.ts_plan.specs.declared.fault.PlanFault.{PlanFault}
use Rattle.ts_plan.specs.declared.fault.PlanFault.TheVariants as plan
use Rattle.ts_report.specs.declared.fault.ReportFault.{ReportFault}
use Rattle.ts_report.specs.declared.fault.ReportFault.TheVariants as report
use Rattle.ts_bundle.specs.declared.fault.BundleFault.{BundleFault}
use Rattle.ts_bundle.specs.declared.fault.BundleFault.TheVariants.{OutOfMemory, Failed, Malformed}

-- the number by which the program tells the fault
abbrev pub fault_number : BundleFault → ℕ
fault_number OutOfMemory = 1
fault_number Failed = 5
fault_number Malformed = 17

-- the fault of a part as one of a bundle
abbrev pub fault_of_text : TextFault → BundleFault
fault_of_text text.OutOfMemory = OutOfMemory
fault_of_text text.Failed = Failed
fault_of_text text.NotCanonical = Malformed

abbrev pub fault_of_tree : TreeFault → BundleFault
fault_of_tree tree.OutOfMemory = OutOfMemory
fault_of_tree tree.TooLong = Malformed
fault_of_tree tree.Failed = Failed
fault_of_tree tree.NotCanonical = Malformed

abbrev pub fault_of_print : PrintFault → BundleFault
fault_of_print print.OutOfMemory = OutOfMemory
fault_of_print print.TooLong = Malformed
fault_of_print print.Failed = Failed
fault_of_print print.NotCanonical = Malformed

abbrev pub fault_of_rules : HoldFault → BundleFault
fault_of_rules hold.OutOfMemory = OutOfMemory
fault_of_rules (hold.BadRule line) = Malformed

abbrev pub fault_of_plan : PlanFault → BundleFault
fault_of_plan plan.OutOfMemory = OutOfMemory
fault_of_plan plan.Failed = Failed
fault_of_plan plan.NotCanonical = Malformed
fault_of_plan plan.PastLimit = Malformed

abbrev pub fault_of_report : ReportFault → BundleFault
fault_of_report report.OutOfMemory = OutOfMemory
fault_of_report report.Failed = Failed

-- a line or a text is refused for this reason, unless memory ran out
abbrev pub Refuses : Type 0 → BundleFault → Type 0
Refuses reason OutOfMemory = Unit {0}
Refuses reason Failed = ⊥
Refuses reason Malformed = reason

-- a writer's fault: its sink's count of failures changes where the sink failed, and only there; else memory ran out
abbrev pub FailuresFit : {A : Type 0} → ℕ → ℕ → Result A BundleFault → Type 0
FailuresFit old new (Ok x) = new ≡ old
FailuresFit old new (Err OutOfMemory) = new ≡ old
FailuresFit old new (Err Failed) = new ≢ old
FailuresFit old new (Err Malformed) = ⊥
