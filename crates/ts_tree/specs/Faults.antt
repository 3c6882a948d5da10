-- The faults of trees.
use Rattle.std.specs.Prelude.{◌≡◌, ◌≢◌, ℕ, Result, Ok, Err}
use Rattle.ts_table.specs.declared.fault.TableFault.{TableFault}
use Rattle.ts_table.specs.declared.fault.TableFault.TheVariants as table
use Rattle.ts_tree.specs.declared.fault.TreeFault.{TreeFault}
use Rattle.ts_tree.specs.declared.fault.TreeFault.TheVariants as fault

-- the number by which the program tells the fault
abbrev pub fault_number : TreeFault → ℕ
fault_number fault.OutOfMemory = 1
fault_number fault.TooLong = 4
fault_number fault.Failed = 5
fault_number fault.NotCanonical = 6

-- what a table's fault is called here
abbrev pub fault_of_table : TableFault → TreeFault
fault_of_table table.OutOfMemory = fault.OutOfMemory
fault_of_table table.TooLong = fault.TooLong

-- a line or a text is refused for this reason, unless memory ran out
abbrev pub Refuses : Type 0 → TreeFault → Type 0
Refuses reason fault.OutOfMemory = Unit {0}
Refuses reason fault.TooLong = ⊥
Refuses reason fault.Failed = ⊥
Refuses reason fault.NotCanonical = reason

-- a writer's fault: its sink's count of failures changes where the sink failed, and only there; else memory ran out
abbrev pub FailuresFit : {A : Type 0} → ℕ → ℕ → Result A TreeFault → Type 0
FailuresFit old new (Ok x) = new ≡ old
FailuresFit old new (Err fault.OutOfMemory) = new ≡ old
FailuresFit old new (Err fault.TooLong) = ⊥
FailuresFit old new (Err fault.Failed) = new ≢ old
FailuresFit old new (Err fault.NotCanonical) = ⊥
