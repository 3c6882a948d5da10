use Rattle.std.proofs.Common.{◌≡◌, map, take}
use Rattle.std.specs.Io.KnownBytes.{Appends}
use Rattle.ts_model.specs.Texts.{text, rule_line}
use Rattle.ts_hold.proofs.holds.Holds.encode.Given as goal

abbrev pub invariant-loop-rule : goal.invariant-loop-rule
invariant-loop-rule g l = record {
  written : Appends (g.W.Sink.holds l.fn.sink) (g.W.Sink.holds l.sink) (text (map rule_line (take l.rule-index l.rules)));
  failures : g.W.Sink.failures l.sink ≡ g.W.Sink.failures l.fn.sink;
}
