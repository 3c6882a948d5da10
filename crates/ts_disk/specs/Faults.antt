-- The faults of replicas on a disk.
use Rattle.std.specs.Prelude.{ℕ}
use Rattle.ts_cause.specs.declared.cause.Cause.TheVariants.{Unknown}
use Rattle.ts_disk.specs.declared.replacement.Refusal.{Refusal}
use Rattle.ts_disk.specs.declared.replacement.Refusal.TheVariants as refusal
use Rattle.ts_site.specs.declared.fault.SiteFault.{SiteFault}
use Rattle.ts_site.specs.declared.fault.SiteFault.TheVariants as site
use Rattle.ts_text.specs.declared.fault.TextFault.{TextFault}
use Rattle.ts_text.specs.declared.fault.TextFault.TheVariants as text
use Rattle.ts_disk.specs.declared.fault.DiskFault.{DiskFault}
use Rattle.ts_disk.specs.declared.fault.DiskFault.TheVariants.{OutOfMemory, Failed, Unread, Device, Locked, Own, Archives}

-- the number that the fault is reported by
abbrev pub fault_number : DiskFault → ℕ
fault_number OutOfMemory = 1
fault_number (Failed cause) = 5
fault_number (Unread cause) = 5
fault_number (Device cause) = 8
fault_number Locked = 8
fault_number (Own cause) = 5
fault_number Archives = 5

-- the fault that comes of lines of `.twosync/archives` which end with this one
abbrev pub archives_fault : TextFault → DiskFault
archives_fault text.OutOfMemory = OutOfMemory
archives_fault text.Failed = Own Unknown
archives_fault text.NotCanonical = Archives

-- the fault that a commit ends with, by why its swap isn't made
abbrev pub refusal_fault : Refusal → SiteFault
refusal_fault refusal.OutOfMemory = site.OutOfMemory
refusal_fault refusal.Device = site.Device
refusal_fault refusal.Changed = site.Changed
