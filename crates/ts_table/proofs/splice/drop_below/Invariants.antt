use Rattle.std.proofs.Common.{◌≡◌, ◌≤◌}
use Rattle.std.specs.VecDeque.{deque_len}
use Rattle.ts_table.specs.Splices.{stands_below, trail}
use Rattle.ts_table.proofs.splice.drop_below.Given as goal

abbrev pub invariant-loop-rest : goal.invariant-loop-rest
invariant-loop-rest g l = record {
  left : trail (stands_below l.path) l.rest.items ≡ trail (stands_below l.path) l.initial.rest.items;
  fewer : deque_len l.rest ≤ deque_len l.initial.rest;
}

abbrev pub decreases-loop-rest : goal.decreases-loop-rest
decreases-loop-rest g l = deque_len l.rest
