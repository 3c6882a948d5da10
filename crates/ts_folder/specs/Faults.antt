-- The faults of folders.
use Rattle.std.specs.Prelude.{ℕ}
use Rattle.ts_folder.specs.declared.fault.FolderFault.{FolderFault}
use Rattle.ts_folder.specs.declared.fault.FolderFault.TheVariants as fault
use Rattle.ts_folder.specs.declared.fault.Trouble.{Trouble}
use Rattle.ts_folder.specs.declared.fault.Trouble.TheVariants as trouble

-- the number by which the program tells the fault
abbrev pub fault_number : FolderFault → ℕ
fault_number fault.OutOfMemory = 1
fault_number fault.Device = 8
fault_number fault.NotThere = 9
fault_number fault.Unreadable = 10

abbrev pub fault_of_trouble : Trouble → FolderFault
fault_of_trouble trouble.Device = fault.Device
fault_of_trouble trouble.Unreadable = fault.Unreadable
