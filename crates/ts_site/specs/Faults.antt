-- The numbers that faults are reported by.
use Rattle.std.specs.Prelude.{ℕ}
use Rattle.ts_site.specs.declared.fault.SiteFault.{SiteFault}
use Rattle.ts_site.specs.declared.fault.SiteFault.TheVariants.{OutOfMemory, Device, Changed, Misfit}

abbrev pub fault_number : SiteFault → ℕ
fault_number OutOfMemory = 1
fault_number Device = 8
fault_number Changed = 14
fault_number Misfit = 15
