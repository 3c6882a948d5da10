-- The faults of reports.
use Rattle.std.specs.Prelude.{◌≡◌, ◌≢◌, ℕ, Result, Ok, Err}
use Rattle.ts_report.specs.declared.fault.ReportFault.{ReportFault}
use Rattle.ts_report.specs.declared.fault.ReportFault.TheVariants.{OutOfMemory, Failed}

-- the number by which the program tells the fault
abbrev pub fault_number : ReportFault → ℕ
fault_number OutOfMemory = 1
fault_number Failed = 5

-- the sink's count of failures changes where the sink failed, and only there; else memory ran out
abbrev pub FailuresFit : {A : Type 0} → ℕ → ℕ → Result A ReportFault → Type 0
FailuresFit old new (Ok x) = new ≡ old
FailuresFit old new (Err OutOfMemory) = new ≡ old
FailuresFit old new (Err Failed) = new ≢ old
