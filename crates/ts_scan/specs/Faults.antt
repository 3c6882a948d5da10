-- The faults of a scan: their numbers, and where each may come.
--     Tells p fault told     a folder's fault at p is reported so
--     MayFail lets told e    the fault may come over a folder with these troubles that tells this tree, or none
use Rattle.std.specs.Prelude.{◌≡◌, ◌⊎◌, ℕ, [], ◌∷◌, ◌++◌, Option, Some, None, Result, IfErr, IfOk, IfSome}
use Rattle.ts_name.specs.Paths.{Name, Path, IsPath}
use Rattle.ts_model.specs.Trees.{Listing, Tree, at, print_of}
use Rattle.ts_model.specs.declared.row.Stamp.{Stamp}
use Rattle.ts_folder.specs.declared.fault.FolderFault.{FolderFault}
use Rattle.ts_folder.specs.declared.fault.FolderFault.TheVariants as folder
use Rattle.ts_folder.specs.declared.fault.Trouble.{Trouble}
use Rattle.ts_folder.specs.declared.fault.Trouble.TheVariants as trouble
use Rattle.ts_folder.specs.declared.folder.Call.{Call}
use Rattle.ts_scan.specs.Scans.{Told}
use Rattle.ts_scan.specs.declared.fault.Refusal.{Refusal}
use Rattle.ts_scan.specs.declared.fault.Refusal.TheVariants as refusal
use Rattle.ts_scan.specs.declared.fault.ScanFault.{ScanFault}
use Rattle.ts_scan.specs.declared.fault.ScanFault.TheVariants.{OutOfMemory, At}

abbrev pub refusal_number : Refusal → ℕ
refusal_number refusal.TooLong = 4
refusal_number refusal.Device = 8
refusal_number refusal.NotThere = 9
refusal_number refusal.Unreadable = 10

abbrev pub fault_number : ScanFault → ℕ
fault_number OutOfMemory = 1
fault_number (At path fault) = refusal_number fault

-- where the fault is, if it has a place
abbrev pub place_of : ScanFault → Option Path
place_of OutOfMemory = None
place_of (At path fault) = Some path

abbrev pub IsTold : FolderFault → Refusal → Type 0
IsTold folder.OutOfMemory r = ⊥
IsTold folder.Device r = r ≡ refusal.Device
IsTold folder.NotThere r = r ≡ refusal.NotThere
IsTold folder.Unreadable r = r ≡ refusal.Unreadable

abbrev pub Tells : Path → FolderFault → ScanFault → Type 0
Tells p fault OutOfMemory = Unit {0}
Tells p fault (At path r) = (path ≡ p) × IsTold fault r

-- a path past the limits and nothing at a path that was listed come only where no tree is told, and so does a file
-- that is too long
abbrev pub MayFail : (Call → Path → Trouble → Type 0) → Told → ScanFault → Type 0
MayFail lets told OutOfMemory = Unit {0}
MayFail lets told (At path refusal.TooLong) = told ≡ None
MayFail lets told (At path refusal.Device) = (call : Call) × lets call path trouble.Device
MayFail lets told (At path refusal.NotThere) = told ≡ None
MayFail lets told (At path refusal.Unreadable) = (told ≡ None) ⊎ ((call : Call) × lets call path trouble.Unreadable)

-- where the folder tells a tree of which this holds, no fault but one that may come
abbrev pub FailsAsTold : {A : Type 0} → (Call → Path → Trouble → Type 0) → Told → (Tree → Type 0) → Result A ScanFault → Type 0
FailsAsTold lets told Holds result = IfSome told (λ tree. Holds (at tree)) → IfErr result (MayFail lets told)

-- why a child has no path: memory ran out, or it is past the limits, which is reported at its directory
abbrev pub IsOfChild : Path → Name → ScanFault → Type 0
IsOfChild p name e = (e ≡ OutOfMemory) ⊎ ((e ≡ At p refusal.TooLong) × (¬ IsPath (p ++ name ∷ [])))

-- over a folder that tells a tree its print, and no fault but one that may come
abbrev pub ScansTold : (Call → Path → Trouble → Type 0) → Told → Result (Listing Stamp) ScanFault → Type 0
ScansTold lets told result = IfSome told (λ tree. IfOk result (λ print. at print ≡ print_of (at tree))) × IfErr result (MayFail lets told)
