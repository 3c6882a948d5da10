-- What the contracts of workers say, in words over what all workers share.
--     setting_of sites folders stops stages shared          what its folders, sites and stage tell, and may fail with, and whether it may be stopped
--     HasList sites folders stops stages shared p list      the pass is one of its board, and tidy; why actions failed in its steps is in the list
--     HasNotes sites folders stops stages shared p faults   the same, where each failed action has its fault at its place
use Rattle.std.specs.Prelude.{List, Option}
use Rattle.ts_board.specs.Calls.{table_of, terms_of}
use Rattle.ts_board.specs.declared.board.Pass.{Pass}
use Rattle.ts_exec.specs.Failures.{Setting, or_jammed, or_stopped, setting_with}
use Rattle.ts_exec.specs.Tidy.{AreFresh, KeepsList, KeepsNotes}
use Rattle.ts_exec.specs.declared.crew.Failure.{Failure}
use Rattle.ts_exec.specs.declared.crew.Member.{Member}
use Rattle.ts_exec.specs.declared.fault.ActFault.{ActFault}
use Rattle.ts_exec.specs.declared.shared.Shared.{Shared}
use Rattle.ts_folder.specs.declared.folder.Folder as folder
use Rattle.ts_site.specs.declared.site.Site as site
use Rattle.ts_stage.specs.declared.stage.Stage as stage
use Rattle.ts_exec.specs.declared.stop.Stop as stop

module _ {S F G P File : Type 0} (sites : site.Ghosts S) (folders : folder.Ghosts F File) (stops : stop.Ghosts G) (stages : stage.Ghosts P) (shared : Shared S F G P) where
  abbrev pub setting_of : Setting
  setting_of =
      or_jammed (stages.fails shared.stage.now) (or_stopped (stops.stops shared.gate.now)
      (setting_with sites.failures folders.tells folders.lets shared.checked.now shared.first.now shared.second.now (terms_of sites.content shared.board.now).told))

  -- what a worker has between two tries
  abbrev pub HasList : Pass S → List Failure → Type 0
  HasList pass failures = KeepsList (table_of shared.board.now) (terms_of sites.content shared.board.now) setting_of pass failures

  -- what workers leave behind together
  abbrev pub HasNotes : Pass S → List (Option ActFault) → Type 0
  HasNotes pass faults = KeepsNotes (table_of shared.board.now) (terms_of sites.content shared.board.now) setting_of pass faults

  -- the same before the workers that are left have found a failure
  abbrev pub HasBegun : Pass S → List (Option ActFault) → List Member → Type 0
  HasBegun pass faults members = HasNotes pass faults × AreFresh members
