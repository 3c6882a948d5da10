use Rattle.std.proofs.Common.{◌≡◌, ◌+◌, ◌/◌, length}
use Rattle.ts_model.specs.Texts.{data_lines}
use Rattle.ts_tree.proofs.Writing.{Wrote}
use Rattle.ts_tree.proofs.encoding.write_data.Given as goal

abbrev pub invariant-loop-rest : goal.invariant-loop-rest
invariant-loop-rest g l = record {
  wrote : Wrote (g.W.Sink.holds l.fn.sink) (g.W.Sink.holds l.sink) (data_lines ((length l.bytes + 63) / 64) l.bytes) (data_lines ((length l.rest + 63) / 64) l.rest);
  failures : g.W.Sink.failures l.sink ≡ g.W.Sink.failures l.fn.sink;
}

abbrev pub decreases-loop-rest : goal.decreases-loop-rest
decreases-loop-rest g l = length l.rest
