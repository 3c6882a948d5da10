use Rattle.std.proofs.Common.{◌≡◌, drop}
use Rattle.ts_model.specs.Texts.{tree_lines}
use Rattle.ts_tree.proofs.Writing.{Wrote}
use Rattle.ts_tree.proofs.encoding.encode.Given as goal

abbrev pub invariant-loop-row : goal.invariant-loop-row
invariant-loop-row g l = record {
  wrote : Wrote (g.W.Sink.holds l.fn.sink) (g.W.Sink.holds l.sink) (tree_lines l.tree) (tree_lines (drop l.row-index l.tree));
  failures : g.W.Sink.failures l.sink ≡ g.W.Sink.failures l.fn.sink;
}
