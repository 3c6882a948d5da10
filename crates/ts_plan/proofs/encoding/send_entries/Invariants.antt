use Rattle.std.proofs.Common.{◌≡◌, take, flat_map}
use Rattle.std.specs.Io.KnownBytes.{Appends}
use Rattle.ts_plan.specs.Sends.{entry_chunk}
use Rattle.ts_plan.proofs.encoding.send_entries.Given as goal

-- those before this one went out
abbrev pub invariant-loop-entry : goal.invariant-loop-entry
invariant-loop-entry g l =
    Appends (g.W.Sink.holds l.initial.sink) (g.W.Sink.holds l.sink) (flat_map entry_chunk (take l.entry-index l.entries))
    × (g.W.Sink.failures l.sink ≡ g.W.Sink.failures l.initial.sink)
