-- What becomes of the faults of the crates below, and the lines of what is kept and of mounts.
use Rattle.std.specs.Prelude.{◌≡◌, ◌≢◌, ◌⊎◌, ℕ, List, ◌++◌, codes}
use Rattle.ts_name.specs.Paths.{Path, path_text, place_text}
use Rattle.ts_archive.specs.declared.fault.ArchiveFault.{ArchiveFault}
use Rattle.ts_archive.specs.declared.fault.ArchiveFault.TheVariants as archive
use Rattle.ts_cause.specs.declared.cause.Cause.{Cause}
use Rattle.ts_cause.specs.declared.cause.Cause.TheVariants.{Unknown}
use Rattle.ts_check.specs.declared.fault.CheckFault.{CheckFault}
use Rattle.ts_check.specs.declared.fault.CheckFault.TheVariants as check
use Rattle.ts_disk.specs.declared.fault.DiskFault.{DiskFault}
use Rattle.ts_disk.specs.declared.fault.DiskFault.TheVariants as disk
use Rattle.ts_hold.specs.declared.faults.HoldFault.{HoldFault}
use Rattle.ts_hold.specs.declared.faults.HoldFault.TheVariants as hold
use Rattle.ts_plan.specs.declared.fault.PlanFault.{PlanFault}
use Rattle.ts_plan.specs.declared.fault.PlanFault.TheVariants as plan
use Rattle.ts_model.specs.declared.plan.Side.{Side}
use Rattle.ts_model.specs.declared.plan.Side.TheVariants as side
use Rattle.ts_plan_build.specs.declared.fault.BuildFault.{BuildFault}
use Rattle.ts_plan_build.specs.declared.fault.BuildFault.TheVariants as build
use Rattle.ts_scan.specs.declared.fault.ScanFault.{ScanFault}
use Rattle.ts_scan.specs.declared.fault.ScanFault.TheVariants as scan
use Rattle.ts_text.specs.declared.fault.TextFault.{TextFault}
use Rattle.ts_text.specs.declared.fault.TextFault.TheVariants as text
use Rattle.ts_trial.specs.declared.fault.TrialFault.{TrialFault}
use Rattle.ts_trial.specs.declared.fault.TrialFault.TheVariants as trial
use Rattle.ts_perform.specs.declared.fault.OpenFault.{OpenFault}
use Rattle.ts_perform.specs.declared.fault.OpenFault.TheVariants as opening
use Rattle.ts_explain.specs.declared.fault.PerformFault.{PerformFault}
use Rattle.ts_explain.specs.declared.fault.PerformFault.TheVariants as fault
use Rattle.ts_explain.specs.declared.subject.Subject.{Subject}
use Rattle.ts_explain.specs.declared.subject.Subject.TheVariants.{First, Input, Output, Second, Stream}
use Rattle.ts_explain.specs.declared.subject.Why.{Why}
use Rattle.ts_explain.specs.declared.subject.Why.TheVariants.{Denied, NotFile, Unread, Unwritten}

-- what was kept of an entry, and where
abbrev pub kept_line : Path → List ℕ → List ℕ
kept_line path place = codes "twosync: kept " ++ path_text path ++ codes " as " ++ place

-- another file system is mounted in a replica
abbrev pub mount_line : Path → List ℕ
mount_line path = codes "twosync: mount " ++ path_text path

-- the fault of a scan, with another cause, or just this one
abbrev pub IsSameButCause : PerformFault → PerformFault → Type 0
IsSameButCause (fault.Scan what scan cause) e = (other : Cause) × (e ≡ fault.Scan what scan other)
IsSameButCause same e = e ≡ same

-- what the system said of a file or a directory at a place that was read or listed from an offset on
abbrev pub Says : Type 1
Says = List ℕ → ℕ → Cause → Type 0

-- no cause of a fault of the scan of the folder with this root is known, or it is what the system said of the path that couldn't be read
abbrev pub IsCauseBelow : Says → List ℕ → ScanFault → Cause → Type 0
IsCauseBelow says root (scan.At path refusal) cause = (cause ≡ Unknown) ⊎ says (root ++ place_text path) 0 cause
IsCauseBelow says root scan.OutOfMemory cause = cause ≡ Unknown

-- the fault of a scan of the folder with this root, with its cause; each other fault as it was
abbrev pub IsWithCauseBelow : Says → List ℕ → PerformFault → PerformFault → Type 0
IsWithCauseBelow says root (fault.Scan what scan cause) e = (other : Cause) × (e ≡ fault.Scan what scan other) × IsCauseBelow says root scan other
IsWithCauseBelow says root same e = e ≡ same

-- a fault of a scan of the second replica
abbrev pub IsOfSecond : PerformFault → Type 0
IsOfSecond e = (found : ScanFault) × (cause : Cause) × (e ≡ fault.Scan Second found cause)

-- standard output can't be written, for this reason
abbrev pub unwritten : Cause → PerformFault
unwritten cause = fault.Failed Output (Unwritten cause)

-- standard input or output failed, and nothing says which
abbrev pub IsOfStream : PerformFault → Type 0
IsOfStream e = (why : Why) × (e ≡ fault.Failed Stream why)

-- where standard output can't be written, and no reason is known, the same for this reason; so it is where a stream failed, and this is the reason of
-- a failed write; and else just this fault
abbrev pub IsWithOutputCause : Cause → PerformFault → PerformFault → Type 0
IsWithOutputCause cause e told =
    (((e ≡ unwritten Unknown) ⊎ (IsOfStream e × (cause ≢ Unknown))) × (told ≡ unwritten cause))
    ⊎ ((e ≢ unwritten Unknown) × (IsOfStream e → cause ≡ Unknown) × (told ≡ e))

-- of a file that is opened
abbrev pub fault_of_open : Subject → OpenFault → PerformFault
fault_of_open what opening.OutOfMemory = fault.OutOfMemory
fault_of_open what opening.Denied = fault.Failed what Denied
fault_of_open what opening.NotFile = fault.Failed what NotFile
fault_of_open what (opening.Failed cause) = fault.Failed what (Unread cause)

-- of a text about this, which is read or written
abbrev pub fault_of_text : Subject → Why → TextFault → PerformFault
fault_of_text what why text.OutOfMemory = fault.OutOfMemory
fault_of_text what why text.Failed = fault.Failed what why
fault_of_text what why text.NotCanonical = fault.NotCanonical what

abbrev pub fault_of_archive : Subject → Why → ArchiveFault → PerformFault
fault_of_archive what why archive.OutOfMemory = fault.OutOfMemory
fault_of_archive what why archive.Failed = fault.Failed what why
fault_of_archive what why archive.NotCanonical = fault.NotCanonical what
fault_of_archive what why archive.WrongEnd = fault.WrongEnd

abbrev pub fault_of_hold : HoldFault → PerformFault
fault_of_hold hold.OutOfMemory = fault.OutOfMemory
fault_of_hold (hold.BadRule line) = fault.BadRule line

abbrev pub fault_of_plan : Subject → Why → PlanFault → PerformFault
fault_of_plan what why plan.OutOfMemory = fault.OutOfMemory
fault_of_plan what why plan.Failed = fault.Failed what why
fault_of_plan what why plan.NotCanonical = fault.NotCanonical what
fault_of_plan what why plan.PastLimit = fault.PastLimit

abbrev pub fault_of_build : BuildFault → PerformFault
fault_of_build build.OutOfMemory = fault.OutOfMemory
fault_of_build build.PastLimit = fault.TooMuch

abbrev pub fault_of_check : CheckFault → PerformFault
fault_of_check check.OutOfMemory = fault.OutOfMemory
fault_of_check (check.Broken rule place) = fault.Broken rule place

-- the stream of a trial that failed: standard input, where that gives a cause
abbrev pub stream_with : Cause → Subject
stream_with Unknown = Stream
stream_with other = Input

-- of a trial whose standard input gives this cause
abbrev pub fault_of_trial : Cause → TrialFault → PerformFault
fault_of_trial cause trial.OutOfMemory = fault.OutOfMemory
fault_of_trial cause trial.Failed = fault.Failed (stream_with cause) (Unread cause)

-- of a replica or of the archive
abbrev pub fault_of_disk : Subject → DiskFault → PerformFault
fault_of_disk what disk.OutOfMemory = fault.OutOfMemory
fault_of_disk what (disk.Failed cause) = fault.Failed what (Unwritten cause)
fault_of_disk what (disk.Unread cause) = fault.Failed what (Unread cause)
fault_of_disk what (disk.Device cause) = fault.Device what cause
fault_of_disk what disk.Locked = fault.Locked what
fault_of_disk what (disk.Own cause) = fault.Own what cause
fault_of_disk what disk.Archives = fault.Archives what

abbrev pub replica_on : Side → Subject
replica_on side.First = First
replica_on side.Second = Second
