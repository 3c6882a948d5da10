use Rattle.std.proofs.Common.{◌≡◌, ◌++◌, ◌+◌, ◌≤◌, length}
use Rattle.std.specs.List.{AllByRecursion}
use Rattle.std.specs.VecDeque.{deque_capacity, deque_len}
use Rattle.ts_tree.specs.Trees.{FilesFit}
use Rattle.ts_tree.proofs.frame.trees_of.Given as goal

abbrev pub invariant-loop-part : goal.invariant-loop-part
invariant-loop-part l = record {
  gathered : l.out.items ++ l.part-iterator.rest.items ≡ l.fn.out.items ++ l.fn.parts.items;
  files : AllByRecursion FilesFit l.part-iterator.rest.items;
  room : deque_len l.out + length l.part-iterator.rest.items ≤ deque_capacity l.out;
}
