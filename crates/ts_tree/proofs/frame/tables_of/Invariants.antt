use Rattle.std.proofs.Common.{◌≡◌, ◌++◌, ◌+◌, ◌≤◌, vec_len}
use Rattle.std.specs.List.{AllByRecursion}
use Rattle.std.specs.Prelude.{vec_capacity}
use Rattle.std.specs.VecDeque.{deque_capacity, deque_len}
use Rattle.ts_tree.specs.Trees.{FilesFit}
use Rattle.ts_tree.proofs.frame.tables_of.Given as goal

abbrev pub invariant-loop-part : goal.invariant-loop-part
invariant-loop-part l = record {
  gathered : l.out.items ++ l.parts.items ≡ l.initial.parts.items;
  files : AllByRecursion FilesFit l.out.items;
  room : vec_len l.out + deque_len l.parts ≤ vec_capacity l.out;
  capacity : deque_capacity l.parts ≡ deque_capacity l.initial.parts;
}

abbrev pub decreases-loop-part : goal.decreases-loop-part
decreases-loop-part l = deque_len l.parts
