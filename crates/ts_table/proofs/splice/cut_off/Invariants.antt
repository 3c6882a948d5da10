use Rattle.std.proofs.Common.{◌≡◌, ◌++◌, ◌+◌, ◌≤◌, vec_len}
use Rattle.std.specs.Prelude.{vec_capacity}
use Rattle.std.specs.VecDeque.{deque_capacity, deque_len}
use Rattle.ts_table.proofs.splice.cut_off.Given as goal

abbrev pub invariant-loop-rows : goal.invariant-loop-rows
invariant-loop-rows g l = record {
  whole : l.rows.items ++ l.rest.items ≡ l.fn.rows.items;
  count : vec_len l.rows + deque_len l.rest ≡ vec_len l.fn.rows;
  more : l.start ≤ vec_len l.rows;
  room : vec_len l.fn.rows ≤ l.start + deque_capacity l.rest;
  capacity : vec_capacity l.rows ≡ vec_capacity l.fn.rows;
}

abbrev pub decreases-loop-rows : goal.decreases-loop-rows
decreases-loop-rows g l = vec_len l.rows
