-- The faults of commands: their numbers, their places, and the lines that report them.
--     subject_of e            the file or the folder that a fault names, if it names one
--     IsAbout what e          it names no other than this
use Rattle.std.specs.Prelude.{◌≡◌, ℕ, List, [], ◌∷◌, ◌++◌, Option, Some, None, IfSome, codes, decimal}
use Rattle.ts_name.specs.Paths.{Path, path_text}
use Rattle.ts_scan.specs.Faults.{fault_number as scan_number, place_of as scan_place}
use Rattle.ts_explain.specs.declared.fault.PerformFault.{PerformFault}
use Rattle.ts_explain.specs.declared.fault.PerformFault.TheVariants as fault
use Rattle.ts_explain.specs.declared.subject.Subject.{Subject}
use Rattle.ts_explain.specs.declared.subject.Subject.TheVariants.{Archive, Holds, Plan}

abbrev pub fault_number : PerformFault → ℕ
fault_number fault.OutOfMemory = 1
fault_number (fault.Failed what why) = 5
fault_number (fault.Own what cause) = 5
fault_number (fault.Archives what) = 5
fault_number (fault.NotCanonical what) = 6
fault_number fault.WrongEnd = 7
fault_number (fault.Device what cause) = 8
fault_number (fault.Locked what) = 8
fault_number (fault.NotThere what) = 9
fault_number (fault.New what paths) = 9
fault_number (fault.BothNew paths) = 9
fault_number (fault.Emptied what files others) = 9
fault_number (fault.BadRule line) = 11
fault_number fault.PastLimit = 12
fault_number fault.TooMuch = 12
fault_number (fault.Broken rule place) = 13
fault_number (fault.Scan what scan cause) = scan_number scan

-- only what a scan met has a place
abbrev pub place_of : PerformFault → Option Path
place_of (fault.Scan what scan cause) = scan_place scan
place_of other = None

abbrev pub subject_of : PerformFault → Option Subject
subject_of fault.OutOfMemory = None
subject_of (fault.Failed what why) = Some what
subject_of (fault.Own what cause) = Some what
subject_of (fault.Archives what) = Some what
subject_of (fault.NotCanonical what) = Some what
subject_of fault.WrongEnd = Some Archive
subject_of (fault.Device what cause) = Some what
subject_of (fault.Locked what) = Some what
subject_of (fault.NotThere what) = Some what
subject_of (fault.New what paths) = Some what
subject_of (fault.BothNew paths) = Some Archive
subject_of (fault.Emptied what files others) = Some what
subject_of (fault.BadRule line) = Some Holds
subject_of fault.PastLimit = Some Plan
subject_of fault.TooMuch = None
subject_of (fault.Broken rule place) = Some Plan
subject_of (fault.Scan what scan cause) = Some what

abbrev pub IsAbout : Subject → PerformFault → Type 0
IsAbout what e = IfSome (subject_of e) (λ named. named ≡ what)

-- the program's own directory in a replica, which is no path of it
abbrev pub own_path : Path
own_path = codes ".twosync" ∷ []

-- the file in it that says which archives the replica belongs to
abbrev pub archives_path : Path
archives_path = codes ".twosync" ∷ codes "archives" ∷ []

-- the path that a fault is told with
abbrev pub told_path : PerformFault → Option Path
told_path (fault.Own what cause) = Some own_path
told_path (fault.Archives what) = Some archives_path
told_path other = place_of other

-- the number, and the path where there is one other than the root
abbrev pub fault_line : ℕ → Option Path → List ℕ
fault_line number None = codes "twosync: fault " ++ decimal number
fault_line number (Some []) = codes "twosync: fault " ++ decimal number
fault_line number (Some (name ∷ path)) = codes "twosync: fault " ++ decimal number ++ 32 ∷ path_text (name ∷ path)

abbrev pub fault_line_at : ℕ → List ℕ → List ℕ
fault_line_at number place = codes "twosync: fault " ++ decimal number ++ 32 ∷ place
