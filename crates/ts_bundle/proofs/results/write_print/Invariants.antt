use Rattle.std.proofs.Common.{◌≡◌, ◌∷◌, drop}
use Rattle.ts_model.specs.Texts.{print_lines}
use Rattle.ts_tree.proofs.Writing.{Wrote}
use Rattle.ts_bundle.proofs.results.write_print.Given as goal

abbrev pub invariant-loop-row : goal.invariant-loop-row
invariant-loop-row g l = record {
  wrote : Wrote (g.W.Sink.holds l.fn.sink) (g.W.Sink.holds l.sink) (l.title ∷ print_lines l.rows) (print_lines (drop l.row-index l.rows));
  failures : g.W.Sink.failures l.sink ≡ g.W.Sink.failures l.fn.sink;
}
