-- The numbers that faults are reported by.
use Rattle.std.specs.Prelude.{ℕ}
use Rattle.ts_hold.specs.declared.faults.HoldFault.{HoldFault}
use Rattle.ts_hold.specs.declared.faults.HoldFault.TheVariants.{OutOfMemory, BadRule}

abbrev pub fault_number : HoldFault → ℕ
fault_number OutOfMemory = 1
fault_number (BadRule line) = 11
