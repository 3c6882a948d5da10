-- The numbers that faults are reported by.
use Rattle.std.specs.Prelude.{ℕ}
use Rattle.ts_table.specs.declared.fault.TableFault.{TableFault}
use Rattle.ts_table.specs.declared.fault.TableFault.TheVariants.{OutOfMemory, TooLong}

abbrev pub fault_number : TableFault → ℕ
fault_number OutOfMemory = 1
fault_number TooLong = 4
