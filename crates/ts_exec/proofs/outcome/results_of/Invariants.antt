use Rattle.std.proofs.Common.{◌≡◌, ◌≤◌, ℕ, length, slice_get, Some}
use Rattle.std.specs.Prelude.{vec_capacity}
use Rattle.std.specs.Mem.Slots.{slots_items}
use Rattle.ts_model.specs.Runs.{Run}
use Rattle.ts_exec.specs.Outcomes.{IsEnd, ResultIs}
use Rattle.ts_exec.specs.declared.outcome.ActionResult.{ActionResult}
use Rattle.ts_exec.proofs.outcome.results_of.Given as goal

abbrev pub invariant-loop-i : goal.invariant-loop-i
invariant-loop-i g l = record {
  count : length l.results.items ≡ l.i;
  room : length l.checked.plan.actions ≤ vec_capacity l.results;
  each : (run : Run) → IsEnd l.checked.plan run (slots_items l.closed.row.words) l.faults → (i : ℕ) (r : ActionResult) → slice_get l.results.items i ≡ Some r → ResultIs l.checked.plan run l.faults i r;
}
