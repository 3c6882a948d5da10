use Rattle.std.proofs.Common.{◌≡◌, ◌++◌, ◌+◌, ◌≤◌, vec_len}
use Rattle.std.specs.Prelude.{vec_capacity}
use Rattle.std.specs.VecDeque.{deque_len}
use Rattle.ts_table.specs.Splices.{comes_before, lead, trail}
use Rattle.ts_table.proofs.splice.move_before.Given as goal

abbrev pub invariant-loop-rest : goal.invariant-loop-rest
invariant-loop-rest g l = record {
  moved : l.out.items ++ lead (comes_before l.path) l.rest.items ≡ l.initial.out.items ++ lead (comes_before l.path) l.initial.rest.items;
  left : trail (comes_before l.path) l.rest.items ≡ trail (comes_before l.path) l.initial.rest.items;
  room : vec_len l.out + deque_len l.rest ≡ vec_len l.initial.out + deque_len l.initial.rest;
  capacity : vec_capacity l.initial.out ≤ vec_capacity l.out;
}

abbrev pub decreases-loop-rest : goal.decreases-loop-rest
decreases-loop-rest g l = deque_len l.rest
