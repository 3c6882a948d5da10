-- The numbers of the faults.
use Rattle.std.specs.Prelude.{ℕ}
use Rattle.ts_command.specs.declared.fault.CommandFault.{CommandFault}
use Rattle.ts_command.specs.declared.fault.CommandFault.TheVariants.{OutOfMemory, Usage}

abbrev pub fault_number : CommandFault → ℕ
fault_number OutOfMemory = 1
fault_number (Usage message) = 16
