use Rattle.std.proofs.Common.{◌≡◌, ◌<◌, ℕ, Some, slice_get}
use Rattle.ts_exec.specs.declared.outcome.ActionResult.TheVariants.{Done}
use Rattle.ts_through.proofs.put.all_done.Given as goal

-- those so far are done
abbrev pub invariant-loop-result : goal.invariant-loop-result
invariant-loop-result l = (m : ℕ) → m < l.result-index → slice_get l.results m ≡ Some Done
