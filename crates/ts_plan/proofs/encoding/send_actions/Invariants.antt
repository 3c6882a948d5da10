use Rattle.std.proofs.Common.{◌≡◌, take, flat_map}
use Rattle.std.specs.Io.KnownBytes.{Appends}
use Rattle.ts_plan.specs.Sends.{action_chunk}
use Rattle.ts_plan.proofs.encoding.send_actions.Given as goal

-- those before this one went out
abbrev pub invariant-loop-action : goal.invariant-loop-action
invariant-loop-action g l =
    Appends (g.W.Sink.holds l.initial.sink) (g.W.Sink.holds l.sink) (flat_map action_chunk (take l.action-index l.actions))
    × (g.W.Sink.failures l.sink ≡ g.W.Sink.failures l.initial.sink)
