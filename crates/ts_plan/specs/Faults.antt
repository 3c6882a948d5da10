-- The faults of plans.
use Rattle.std.specs.Prelude.{ℕ}
use Rattle.ts_plan.specs.declared.fault.PlanFault.{PlanFault}
use Rattle.ts_plan.specs.declared.fault.PlanFault.TheVariants.{OutOfMemory, Failed, NotCanonical, PastLimit}

-- the number by which the program tells the fault
abbrev pub fault_number : PlanFault → ℕ
fault_number OutOfMemory = 1
fault_number Failed = 5
fault_number NotCanonical = 6
fault_number PastLimit = 12
