use Rattle.std.proofs.Common.{◌≡◌, ◌++◌, ◌+◌, ◌≤◌, drop, length, vec_len}
use Rattle.std.specs.Prelude.{vec_capacity}
use Rattle.std.specs.VecDeque.{deque_len}
use Rattle.ts_table.specs.Slots.{rerouted}
use Rattle.ts_table.proofs.frame.moved.Given as goal

abbrev pub invariant-loop-path : goal.invariant-loop-path
invariant-loop-path g l = record {
  moved : l.out.items ++ rerouted l.path-iterator.rest.items l.rest.items ≡ l.initial.out.items ++ rerouted l.fn.names.items l.initial.rest.items;
  left : drop (length l.path-iterator.rest.items) l.rest.items ≡ drop (length l.fn.names.items) l.initial.rest.items;
  enough : length l.path-iterator.rest.items ≤ deque_len l.rest;
  fewer : deque_len l.rest ≤ deque_len l.initial.rest;
  room : vec_len l.out + length l.path-iterator.rest.items ≤ vec_capacity l.out;
}
