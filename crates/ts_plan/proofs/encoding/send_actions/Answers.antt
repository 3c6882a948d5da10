use Rattle.std.proofs.Common.{arith}
use Rattle.ts_plan.specs.Sends.{action_chunk}
use Rattle.ts_plan.proofs.Sinks.{loop_failed, loop_more, loop_sent}
use Rattle.ts_plan.proofs.encoding.send_actions.Goals as goal

pub returns-in-Err : goal.returns-in-Err
returns-in-Err g c =
    let loop = c.loop-action in
    loop_failed action_chunk c.args.actions.now loop.action-index c.action-item.result (g.W.Sink.holds c.args.sink.now) (g.W.Sink.holds loop.sink) (g.W.Sink.holds c.send_action.new.sink) (g.W.Sink.failures c.args.sink.now) (g.W.Sink.failures loop.sink) (g.W.Sink.failures c.send_action.new.sink) c.in-Err.fault c.loop-action-test.true c.action-item.is loop.invariant.0 loop.invariant.1 c.in-Err.ensures

pub loop-action-preserved : goal.loop-action-preserved
loop-action-preserved g c =
    let loop = c.loop-action in
    loop_more action_chunk c.args.actions.now loop.action-index c.action-item.result (g.W.Sink.holds c.args.sink.now) (g.W.Sink.holds loop.sink) (g.W.Sink.holds c.send_action.new.sink)
    (g.W.Sink.failures c.args.sink.now) (g.W.Sink.failures loop.sink) (g.W.Sink.failures c.send_action.new.sink)
    c.loop-action-test.true c.action-item.is loop.invariant c.in_default.ensures

pub returns : goal.returns
returns g c =
    let loop = c.loop-action in
    let past = c.loop-action-test.false in
    loop_sent action_chunk c.args.actions.now loop.action-index (g.W.Sink.holds c.args.sink.now) (g.W.Sink.holds loop.sink) (g.W.Sink.failures c.args.sink.now) (g.W.Sink.failures loop.sink)
    (omega arith) loop.invariant
