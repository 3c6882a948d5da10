-- The numbers that faults are reported by.
use Rattle.std.specs.Prelude.{ℕ}
use Rattle.ts_stage.specs.declared.fault.StageFault.{StageFault}
use Rattle.ts_stage.specs.declared.fault.StageFault.TheVariants.{OutOfMemory, Device}

abbrev pub fault_number : StageFault → ℕ
fault_number OutOfMemory = 1
fault_number Device = 8
