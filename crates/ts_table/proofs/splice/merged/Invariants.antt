use Rattle.std.proofs.Common.{◌≡◌, ◌++◌, ◌+◌, ◌≤◌, vec_len, length, sum_by}
use Rattle.std.specs.Prelude.{vec_capacity}
use Rattle.std.specs.VecDeque.{deque_len}
use Rattle.ts_table.specs.Splices.{spliced}
use Rattle.ts_table.proofs.splice.merged.Given as goal

abbrev pub invariant-loop-put : goal.invariant-loop-put
invariant-loop-put g l = record {
  moved : l.out.items ++ spliced l.rest.items l.put-iterator.rest.items ≡ l.fn.out.items ++ spliced l.fn.rest.items l.fn.puts.items;
  room : vec_len l.out + deque_len l.rest + sum_by (λ put. length put.rows) l.put-iterator.rest.items ≤ vec_capacity l.out;
}
