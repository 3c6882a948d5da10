use Rattle.std.proofs.Common.{◌≡◌, ◌≤◌, ◌++◌, drop, length}
use Rattle.std.specs.Vec.{vec_capacity, vec_len}
use Rattle.std.specs.Vec.Iter.{into_iter_items}
use Rattle.ts_board.specs.Terms.{placed}
use Rattle.ts_board.proofs.placing.slots_with.Given as goal

abbrev pub invariant-loop-action : goal.invariant-loop-action
invariant-loop-action g l = record {
  placed_are : l.slots.items ++ placed (drop l.action-index l.plan.actions) (into_iter_items l.rest) ≡ placed l.plan.actions l.fn.sites.items;
  len : vec_len l.slots ≡ l.action-index;
  capacity : length l.plan.actions ≤ vec_capacity l.slots;
}
