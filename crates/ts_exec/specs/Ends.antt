-- How the actions of a run ended, as its report has it.
--     ending_at results i    how action i ended
use Rattle.std.specs.Prelude.{ℕ, List, Option, Some, None, slice_get}
use Rattle.ts_exec.specs.declared.outcome.ActionResult.{ActionResult}
use Rattle.ts_exec.specs.declared.outcome.ActionResult.TheVariants as action
use Rattle.ts_report.specs.declared.results.Ending.{Ending}
use Rattle.ts_report.specs.declared.results.Ending.TheVariants as ending

abbrev pub ending_of : Option ActionResult → Ending
ending_of None = ending.Left
ending_of (Some action.Done) = ending.Done
ending_of (Some (action.Failed fault)) = ending.Failed
ending_of (Some (action.Blocked before)) = ending.Left
ending_of (Some action.Left) = ending.Left

abbrev pub ending_at : List ActionResult → ℕ → Ending
ending_at results i = ending_of (slice_get results i)
