-- Paths that are too long for the system.
--     path_bytes path         how many bytes a path has below a root: those of its names, each with a slash before it
--     spot_bytes number       how many bytes the longest place has below a root at which the entry of this number is stored, staged or moved aside
--     is_past root spot entry path   the system doesn't take this path of an entry below a root of so many bytes, or not while the entry is at its spot
--     fault_below root what fault  the fault of a scan of the folder with this root; where the system doesn't take the path at all, that is what it is
use Rattle.std.specs.Prelude.{ℕ, ◌+◌, ◌-◌, ◌++◌, ◌||◌, Bool, List, codes, decimal, length, sum_by, nat_lt, if◌then◌else◌}
use Rattle.ts_name.specs.Paths.{Path}
use Rattle.ts_cause.specs.declared.cause.Cause.TheVariants.{Unknown}
use Rattle.ts_scan.specs.declared.fault.Refusal.TheVariants.{TooLong}
use Rattle.ts_scan.specs.declared.fault.ScanFault.{ScanFault}
use Rattle.ts_scan.specs.declared.fault.ScanFault.TheVariants as scan
use Rattle.ts_explain.specs.declared.fault.PerformFault.{PerformFault}
use Rattle.ts_explain.specs.declared.fault.PerformFault.TheVariants as fault
use Rattle.ts_explain.specs.declared.subject.Subject.{Subject}

abbrev pub path_bytes : Path → ℕ
path_bytes path = sum_by length path + length path

-- the most that the system takes
abbrev pub most_bytes : ℕ
most_bytes = 4095

abbrev pub spot_bytes : ℕ → ℕ
spot_bytes number = length (codes "/.twosync/stage-" ++ decimal number)

-- at its own place, or below the spot of its entry
abbrev pub is_past : ℕ → ℕ → Path → Path → Bool
is_past root spot entry path =
    nat_lt most_bytes (root + path_bytes path) || nat_lt most_bytes (root + spot + (path_bytes path - path_bytes entry))

abbrev pub fault_below : List ℕ → Subject → ScanFault → PerformFault
fault_below root what scan.OutOfMemory = fault.OutOfMemory
fault_below root what (scan.At path refusal) = fault.Scan what (scan.At path (if nat_lt most_bytes (length root + path_bytes path) then TooLong else refusal)) Unknown
