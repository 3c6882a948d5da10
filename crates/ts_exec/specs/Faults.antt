-- The faults of actions.
--     of_folder, of_stage, of_site      what the fault of a folder, of a stage or of a site becomes
--     fault_number f          the number that it is reported by
use Rattle.std.specs.Prelude.{ℕ}
use Rattle.ts_folder.specs.declared.fault.FolderFault.{FolderFault}
use Rattle.ts_folder.specs.declared.fault.FolderFault.TheVariants as folder
use Rattle.ts_site.specs.declared.fault.SiteFault.{SiteFault}
use Rattle.ts_site.specs.declared.fault.SiteFault.TheVariants as site
use Rattle.ts_stage.specs.declared.fault.StageFault.{StageFault}
use Rattle.ts_stage.specs.declared.fault.StageFault.TheVariants as stage
use Rattle.ts_exec.specs.declared.fault.ActFault.{ActFault}
use Rattle.ts_exec.specs.declared.fault.ActFault.TheVariants.{OutOfMemory, Device, NotThere, Unreadable, Changed, Misfit}

abbrev pub of_folder : FolderFault → ActFault
of_folder folder.OutOfMemory = OutOfMemory
of_folder folder.Device = Device
of_folder folder.NotThere = NotThere
of_folder folder.Unreadable = Unreadable

abbrev pub of_stage : StageFault → ActFault
of_stage stage.OutOfMemory = OutOfMemory
of_stage stage.Device = Device

abbrev pub of_site : SiteFault → ActFault
of_site site.OutOfMemory = OutOfMemory
of_site site.Device = Device
of_site site.Changed = Changed
of_site site.Misfit = Misfit

abbrev pub fault_number : ActFault → ℕ
fault_number OutOfMemory = 1
fault_number Device = 8
fault_number NotThere = 9
fault_number Unreadable = 10
fault_number Changed = 14
fault_number Misfit = 15
