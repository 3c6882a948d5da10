use Rattle.std.proofs.Common.{◌≤◌, length}
use Rattle.std.specs.Mem.Slots.{slots_len}
use Rattle.cases.proofs.executor.compare.Given as goal

abbrev pub invariant-loop-i : goal.invariant-loop-i
invariant-loop-i l = record {
  results : length l.checked.plan.actions ≤ length l.outcome.results.items;
  slots : length l.checked.plan.actions ≤ slots_len l.outcome.closed.row.slots;
}
