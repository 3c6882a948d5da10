use Rattle.std.proofs.Common.{◌≡◌, ◌++◌, ◌+◌, ◌≤◌, length, map, vec_len}
use Rattle.std.specs.Prelude.{vec_capacity}
use Rattle.std.specs.VecDeque.{deque_len}
use Rattle.ts_table.specs.Slots.{SlotsFit, cleared, parted, slot_paths}
use Rattle.ts_table.specs.Splices.{spliced}
use Rattle.ts_table.proofs.frame.taken_apart.Given as goal

abbrev pub invariant-loop-slot : goal.invariant-loop-slot
invariant-loop-slot g l = record {
  fit : SlotsFit l.rest.items l.slot-iterator.rest.items;
  rows_are : l.rows.items ++ spliced l.rest.items (map cleared (slot_paths l.slot-iterator.rest.items)) ≡ spliced l.fn.all.items (map cleared (slot_paths l.fn.room.slots.items));
  paths_are : l.paths.items ++ slot_paths l.slot-iterator.rest.items ≡ slot_paths l.fn.room.slots.items;
  parts_are : l.parts.items ++ parted l.rest.items (slot_paths l.slot-iterator.rest.items) ≡ parted l.fn.all.items (slot_paths l.fn.room.slots.items);
  rows_room : vec_len l.rows + deque_len l.rest ≤ vec_capacity l.rows;
  paths_room : vec_len l.paths + length l.slot-iterator.rest.items ≤ vec_capacity l.paths;
  parts_room : vec_len l.parts + length l.slot-iterator.rest.items ≤ vec_capacity l.parts;
}
