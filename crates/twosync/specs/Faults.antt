-- The numbers that the program prints, and its exit statuses.
use Rattle.std.specs.Prelude.{ℕ}
use Rattle.twosync.specs.declared.Fault.{Fault}
use Rattle.twosync.specs.declared.Fault.TheVariants.{OutOfMemory, Failed, Unreported, Usage}

abbrev pub fault_number : Fault → ℕ
fault_number OutOfMemory = 1
fault_number Failed = 5
fault_number Unreported = 5
fault_number Usage = 16

-- a plan that was carried out isn't refused
abbrev pub fault_status : Fault → ℕ
fault_status OutOfMemory = 3
fault_status Failed = 3
fault_status Unreported = 2
fault_status Usage = 3
