use Rattle.std.proofs.Common.{◌≡◌, ◌+◌, ◌≤◌, ◌++◌, length}
use Rattle.std.specs.Vec.{vec_capacity, vec_len}
use Rattle.std.specs.Vec.Iter.{into_iter_items}
use Rattle.ts_board.specs.Terms.{sites_in}
use Rattle.ts_board.proofs.placing.sites_from.Given as goal

abbrev pub invariant-loop-slot : goal.invariant-loop-slot
invariant-loop-slot g l = record {
  sites_are : l.back.items ++ sites_in (into_iter_items l.slot-iterator) ≡ l.fn.back.items ++ sites_in l.fn.slots.items;
  room : vec_len l.back + length (sites_in (into_iter_items l.slot-iterator)) ≤ vec_capacity l.back;
}
