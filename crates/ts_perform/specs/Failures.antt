-- What is said of the faults of actions, of what swaps leave and of mounts, in sentences for people.
--     failure_text fault path cause     what the fault of an action means, and why it failed, where that is known
--     notice_text notice          what a notice means
use Rattle.std.specs.Prelude.{ℕ, List, [], ◌∷◌, Option, Some, None, codes}
use Rattle.std.specs.String.{string_bytes}
use Rattle.ts_name.specs.Paths.{Path, path_text}
use Rattle.ts_cause.specs.declared.cause.Cause.{Cause}
use Rattle.ts_disk.specs.declared.notice.Notice.{Notice}
use Rattle.ts_disk.specs.declared.notice.Notice.TheVariants as notice
use Rattle.ts_exec.specs.declared.fault.ActFault.{ActFault}
use Rattle.ts_exec.specs.declared.fault.ActFault.TheVariants as act
use Rattle.ts_explain.specs.Pieces.{reason_text, said}
use Rattle.ts_model.specs.declared.plan.Side.{Side}
use Rattle.ts_model.specs.declared.plan.Side.TheVariants as side
use Rattle.ts_preview.specs.Names.{shown}

abbrev pub act_text : ActFault → List ℕ
act_text act.Unreadable = codes " isn't synchronized: it can't be read"
act_text _ = codes " isn't synchronized"

-- how that ends where no cause is known
abbrev pub act_hint : ActFault → List ℕ
act_hint act.OutOfMemory = codes ": memory ran out."
act_hint act.Device = codes ": the device failed, or nothing can be written there."
act_hint act.NotThere = codes ": it went away meanwhile. Run `sync` again."
act_hint act.Unreadable = codes "."
act_hint act.Changed = codes ": what it would replace has changed meanwhile. Run `sync` again."
act_hint act.Misfit = codes ": it changed while it was read. Run `sync` again."

abbrev pub failure_text : ActFault → Option Path → Cause → List ℕ
failure_text fault None cause = said (act_text fault ∷ reason_text (act_hint fault) cause ∷ [])
failure_text fault (Some path) cause = said (shown 0 (path_text path) ∷ act_text fault ∷ reason_text (act_hint fault) cause ∷ [])

-- a replica, where nothing says its name
abbrev pub side_text : Side → List ℕ
side_text side.First = codes "The first folder"
side_text side.Second = codes "The second folder"

abbrev pub notice_text : Notice → List ℕ
notice_text (notice.Discarded path) = said (shown 0 (path_text path) ∷ codes ": what it replaced can't be removed. Later runs try again." ∷ [])
notice_text (notice.Kept path place) =
    said (shown 0 (path_text path) ∷ codes ": what stood there is kept as " ∷ shown 0 (string_bytes place) ∷ codes ": it may be the only copy of something." ∷ [])
notice_text (notice.Forgot side) =
    said (side_text side ∷ codes " knows 1,024 archives: it has forgotten the one that was used longest ago. Where that is still in use, look at `preview`, and use `plan` and `run`." ∷ [])
notice_text (notice.Mounted path) = said (shown 0 (path_text path) ∷ codes " is another file system: nothing can be put in place there." ∷ [])
