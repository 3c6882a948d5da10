-- The faults of texts.
use Rattle.std.specs.Prelude.{ℕ}
use Rattle.ts_text.specs.declared.fault.TextFault.{TextFault}
use Rattle.ts_text.specs.declared.fault.TextFault.TheVariants.{OutOfMemory, Failed, NotCanonical}

-- the number by which the program tells the fault
abbrev pub fault_number : TextFault → ℕ
fault_number OutOfMemory = 1
fault_number Failed = 5
fault_number NotCanonical = 6
