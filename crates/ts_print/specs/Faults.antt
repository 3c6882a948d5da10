-- The numbers that faults are reported by.
use Rattle.std.specs.Prelude.{◌≡◌, ◌≢◌, ℕ, Result, Ok, Err}
use Rattle.ts_table.specs.declared.fault.TableFault.{TableFault}
use Rattle.ts_table.specs.declared.fault.TableFault.TheVariants as table
use Rattle.ts_print.specs.declared.fault.PrintFault.{PrintFault}
use Rattle.ts_print.specs.declared.fault.PrintFault.TheVariants.{OutOfMemory, TooLong, Failed, NotCanonical}

abbrev pub fault_number : PrintFault → ℕ
fault_number OutOfMemory = 1
fault_number TooLong = 4
fault_number Failed = 5
fault_number NotCanonical = 6

-- what a table's fault is called here
abbrev pub fault_of_table : TableFault → PrintFault
fault_of_table table.OutOfMemory = OutOfMemory
fault_of_table table.TooLong = TooLong

-- a line or a text is refused for this reason, unless memory ran out
abbrev pub Refuses : Type 0 → PrintFault → Type 0
Refuses reason OutOfMemory = Unit {0}
Refuses reason TooLong = ⊥
Refuses reason Failed = ⊥
Refuses reason NotCanonical = reason

-- a writer's fault: its sink's count of failures changes where the sink failed, and only there; else memory ran out
abbrev pub FailuresFit : {A : Type 0} → ℕ → ℕ → Result A PrintFault → Type 0
FailuresFit old new (Ok x) = new ≡ old
FailuresFit old new (Err OutOfMemory) = new ≡ old
FailuresFit old new (Err TooLong) = ⊥
FailuresFit old new (Err Failed) = new ≢ old
FailuresFit old new (Err NotCanonical) = ⊥
