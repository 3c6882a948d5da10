-- What becomes of a task's plan, by what the machine tells, the task, what standard output and standard error hold before and after, and
-- the exit status or the fault.
--     RanPlan, RanPlanQuietly    of the plan that is read from the file of this name
--     RanSync, RanSyncQuietly    of a plan that is made
--     CarriesOut                 of this plan, for this snapshot, by a run that tells the replicas of its archive or not
--     Previewed                  of what is shown of a plan that is made, on standard output alone
-- Where nothing was run, what recovery has to say may have been reported, and by a quiet one nothing was.
use Rattle.std.specs.Prelude.{ℕ, List, Option, Result}
use Rattle.ts_explain.specs.declared.fault.PerformFault.{PerformFault}
use Rattle.ts_folder.specs.declared.folder.Folder as folders
use Rattle.ts_preview.specs.declared.writing.Form.{Form}
use Rattle.ts_site.specs.declared.site.Site as sites
use Rattle.ts_stage.specs.declared.stage.Stage as stages
use Rattle.ts_perform.specs.Runs.{IsCarriedOutFor, IsRun, IsSynced, Ran, RanQuietly}
use Rattle.ts_perform.specs.Previewing.{IsPreviewAt}
use Rattle.ts_perform.specs.Snapshots.{Prints, checkup_of}
use Rattle.ts_perform.specs.Worlds.{world}
use Rattle.ts_perform.specs.declared.disk.Disk as disks
use Rattle.ts_perform.specs.declared.snapshot.Proposal.{Proposal}
use Rattle.ts_perform.specs.declared.task.Task.{Task}

abbrev pub RanPlan : {R File F S Way P L A Opened : Type 0} → disks.Ghosts R File F S Way P L A Opened → sites.Ghosts S → folders.Ghosts F File → stages.Ghosts P
    → Task R → List ℕ → (old new old_faults new_faults : Option (List ℕ)) → Result ℕ PerformFault → Type 0
RanPlan disk site folder stage task plan old new old_faults new_faults result =
    Ran task.command.now (IsRun (world disk site folder stage) task.pair.now plan) old new old_faults new_faults result

abbrev pub RanSync : {R File F S Way P L A Opened : Type 0} → disks.Ghosts R File F S Way P L A Opened → sites.Ghosts S → folders.Ghosts F File → stages.Ghosts P
    → Task R → (old new old_faults new_faults : Option (List ℕ)) → Result ℕ PerformFault → Type 0
RanSync disk site folder stage task old new old_faults new_faults result =
    Ran task.command.now (IsSynced (world disk site folder stage) task.command.now.allow_empty task.pair.now) old new old_faults new_faults result

abbrev pub RanPlanQuietly : {R File F S Way P L A Opened : Type 0} → disks.Ghosts R File F S Way P L A Opened → sites.Ghosts S → folders.Ghosts F File → stages.Ghosts P
    → Task R → List ℕ → (old new old_faults new_faults : Option (List ℕ)) → Result ℕ PerformFault → Type 0
RanPlanQuietly disk site folder stage task plan old new old_faults new_faults result =
    RanQuietly task.command.now (IsRun (world disk site folder stage) task.pair.now plan) old new old_faults new_faults result

abbrev pub RanSyncQuietly : {R File F S Way P L A Opened : Type 0} → disks.Ghosts R File F S Way P L A Opened → sites.Ghosts S → folders.Ghosts F File → stages.Ghosts P
    → Task R → (old new old_faults new_faults : Option (List ℕ)) → Result ℕ PerformFault → Type 0
RanSyncQuietly disk site folder stage task old new old_faults new_faults result =
    RanQuietly task.command.now (IsSynced (world disk site folder stage) task.command.now.allow_empty task.pair.now) old new old_faults new_faults result

abbrev pub CarriesOut : {R File F S Way P L A Opened : Type 0} → disks.Ghosts R File F S Way P L A Opened → sites.Ghosts S → folders.Ghosts F File → stages.Ghosts P
    → Task R → Proposal → (old new old_faults new_faults : Option (List ℕ)) → Result ℕ PerformFault → Type 0
CarriesOut disk site folder stage task proposal old new old_faults new_faults result =
    let is = IsCarriedOutFor (world disk site folder stage) (checkup_of proposal.snapshot.now proposal.plan.now) proposal.teaches task.pair.now in
    RanQuietly task.command.now is old new old_faults new_faults result

abbrev pub Previewed : {R File F S Way P L A Opened : Type 0} → disks.Ghosts R File F S Way P L A Opened → sites.Ghosts S → folders.Ghosts F File → stages.Ghosts P
    → Task R → Form → (old new : Option (List ℕ)) → Result ℕ PerformFault → Type 0
Previewed disk site folder stage task form old new result =
    Prints (IsPreviewAt (world disk site folder stage) task.command.now.allow_empty task.pair.now form) old new result
