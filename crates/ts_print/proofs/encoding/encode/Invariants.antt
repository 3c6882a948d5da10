use Rattle.std.proofs.Common.{◌≡◌, drop}
use Rattle.ts_model.specs.Texts.{print_lines}
use Rattle.ts_tree.proofs.Writing.{Wrote}
use Rattle.ts_print.proofs.encoding.encode.Given as goal

abbrev pub invariant-loop-row : goal.invariant-loop-row
invariant-loop-row g l = record {
  wrote : Wrote (g.W.Sink.holds l.fn.sink) (g.W.Sink.holds l.sink) (print_lines l.print) (print_lines (drop l.row-index l.print));
  failures : g.W.Sink.failures l.sink ≡ g.W.Sink.failures l.fn.sink;
}
