-- The numbers that faults are reported by.
use Rattle.std.specs.Prelude.{ℕ}
use Rattle.ts_name.specs.declared.faults.NameFault.{NameFault}
use Rattle.ts_name.specs.declared.faults.NameFault.TheVariants as name
use Rattle.ts_name.specs.declared.faults.PathFault.{PathFault}
use Rattle.ts_name.specs.declared.faults.PathFault.TheVariants as path

abbrev pub name_fault_number : NameFault → ℕ
name_fault_number name.OutOfMemory = 1
name_fault_number name.BadName = 2

abbrev pub path_fault_number : PathFault → ℕ
path_fault_number path.OutOfMemory = 1
path_fault_number path.BadName = 2
path_fault_number path.BadText = 3
path_fault_number path.TooLong = 4
