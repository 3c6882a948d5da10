use Rattle.std.proofs.Common.{◌≡◌, drop}
use Rattle.ts_tree.proofs.Writing.{Wrote}
use Rattle.ts_report.specs.Reports.{fate_lines}
use Rattle.ts_report.proofs.writing.write_entries.Given as goal

abbrev pub invariant-loop-k : goal.invariant-loop-k
invariant-loop-k g l = record {
  wrote : Wrote (g.W.Sink.holds l.fn.sink) (g.W.Sink.holds l.sink) (fate_lines l.entries l.fates) (fate_lines (drop l.k l.entries) (drop l.k l.fates));
  failures : g.W.Sink.failures l.sink ≡ g.W.Sink.failures l.fn.sink;
}
