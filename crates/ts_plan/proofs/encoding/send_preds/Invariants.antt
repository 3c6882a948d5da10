use Rattle.std.proofs.Common.{◌≡◌, take, flat_map}
use Rattle.std.specs.Io.KnownBytes.{Appends}
use Rattle.ts_plan.specs.Sends.{pred_chunk}
use Rattle.ts_plan.proofs.encoding.send_preds.Given as goal

-- those before this one went out
abbrev pub invariant-loop-number : goal.invariant-loop-number
invariant-loop-number g l =
    Appends (g.W.Sink.holds l.initial.sink) (g.W.Sink.holds l.sink) (flat_map pred_chunk (take l.number-index l.preds))
    × (g.W.Sink.failures l.sink ≡ g.W.Sink.failures l.initial.sink)
