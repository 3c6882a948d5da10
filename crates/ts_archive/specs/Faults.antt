-- The faults of archive files.
use Rattle.std.specs.Prelude.{◌≡◌, ◌≢◌, ℕ, Result, Ok, Err}
use Rattle.ts_text.specs.declared.fault.TextFault.{TextFault}
use Rattle.ts_text.specs.declared.fault.TextFault.TheVariants as text
use Rattle.ts_print.specs.declared.fault.PrintFault.{PrintFault}
use Rattle.ts_print.specs.declared.fault.PrintFault.TheVariants as print
use Rattle.ts_archive.specs.declared.fault.ArchiveFault.{ArchiveFault}
use Rattle.ts_archive.specs.declared.fault.ArchiveFault.TheVariants as fault

-- the number by which the program tells the fault
abbrev pub fault_number : ArchiveFault → ℕ
fault_number fault.OutOfMemory = 1
fault_number fault.Failed = 5
fault_number fault.NotCanonical = 6
fault_number fault.WrongEnd = 7

-- the fault of a text as one of an archive file
abbrev pub fault_of_text : TextFault → ArchiveFault
fault_of_text text.OutOfMemory = fault.OutOfMemory
fault_of_text text.Failed = fault.Failed
fault_of_text text.NotCanonical = fault.NotCanonical

-- the fault of a print's reader as one of an archive file: a reader that is given lines has two, and no others
abbrev pub IsOfReader : PrintFault → ArchiveFault → Type 0
IsOfReader print.OutOfMemory e = e ≡ fault.OutOfMemory
IsOfReader print.NotCanonical e = e ≡ fault.NotCanonical
IsOfReader print.TooLong e = ⊥
IsOfReader print.Failed e = ⊥

-- a writer's fault: its sink's count of failures changes where the sink failed, and only there; else memory ran out
abbrev pub FailuresFit : {A : Type 0} → ℕ → ℕ → Result A ArchiveFault → Type 0
FailuresFit old new (Ok x) = new ≡ old
FailuresFit old new (Err fault.OutOfMemory) = new ≡ old
FailuresFit old new (Err fault.Failed) = new ≢ old
FailuresFit old new (Err fault.NotCanonical) = ⊥
FailuresFit old new (Err fault.WrongEnd) = ⊥
