-- The numbers of the faults.
use Rattle.std.specs.Prelude.{ℕ}
use Rattle.ts_plan_build.specs.declared.fault.BuildFault.{BuildFault}
use Rattle.ts_plan_build.specs.declared.fault.BuildFault.TheVariants.{OutOfMemory, PastLimit}

abbrev pub number_of : BuildFault → ℕ
number_of OutOfMemory = 1
number_of PastLimit = 12
