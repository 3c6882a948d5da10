use Rattle.std.proofs.Common.{◌≤◌, length}
use Rattle.std.specs.Mem.Slots.{slots_len}
use Rattle.cases.proofs.stops.pair.Pair.take_over.Given as goal

abbrev pub invariant-loop-i : goal.invariant-loop-i
invariant-loop-i l = length l.checked.plan.actions ≤ slots_len l.closed.row.slots
