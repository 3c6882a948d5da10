use Rattle.std.proofs.Common.{◌≡◌, take}
use Rattle.std.specs.List.{AllByRecursion}
use Rattle.ts_table.specs.Slots.{SlotFits, slot_paths}
use Rattle.ts_table.proofs.table.Table.room_to_split.Given as goal

abbrev pub invariant-loop-path : goal.invariant-loop-path
invariant-loop-path g l = record {
  fit : AllByRecursion (λ slot. SlotFits l.self slot) l.slots.items;
  paths_are : slot_paths l.slots.items ≡ take l.path-index l.paths;
}
