use Rattle.std.proofs.Common.{◌≡◌, ◌++◌, ◌+◌, ◌≤◌, length, map, vec_len}
use Rattle.std.specs.Prelude.{vec_capacity}
use Rattle.ts_table.specs.Slots.{PartsFit, slot_paths}
use Rattle.ts_table.specs.Splices.{put_of}
use Rattle.ts_table.specs.Splits.{edits_of}
use Rattle.ts_table.proofs.join.put_down.Given as goal

abbrev pub invariant-loop-slot : goal.invariant-loop-slot
invariant-loop-slot g l = record {
  fit : PartsFit l.slot-iterator.rest.items l.rest.items;
  puts_are : l.puts.items ++ map put_of (edits_of (slot_paths l.slot-iterator.rest.items) l.rest.items) ≡ l.fn.puts.items ++ map put_of (edits_of (slot_paths l.fn.slots.items) l.fn.parts.items);
  room : vec_len l.puts + length l.slot-iterator.rest.items ≤ vec_capacity l.puts;
}
