use Rattle.std.proofs.Common.{◌≡◌, ◌+◌, length, sum_by, take}
use Rattle.ts_table.proofs.Putting.{IsFilled}
use Rattle.ts_table.proofs.join.space_for.Given as goal

abbrev pub invariant-loop-index : goal.invariant-loop-index
invariant-loop-index g l = record {
  filled : IsFilled l.slots.items (take l.index l.frame.paths) (take l.index l.parts);
  room_is : l.room ≡ l.initial.room + sum_by (λ slot. length slot.names.items) l.slots.items;
}
