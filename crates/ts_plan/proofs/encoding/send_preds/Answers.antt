use Rattle.std.proofs.Common.{get_or, arith}
use Rattle.ts_plan.specs.Sends.{pred_chunk}
use Rattle.ts_plan.proofs.Sinks.{loop_failed, loop_more, loop_sent, same_element}
use Rattle.ts_plan.proofs.encoding.send_preds.Goals as goal

pub returns-in-Err : goal.returns-in-Err
returns-in-Err g c =
    let loop = c.loop-number in
    let preds = c.args.preds.now in
    let at = get_or preds loop.number-index 0 in
    loop_failed pred_chunk preds loop.number-index at (g.W.Sink.holds c.args.sink.now) (g.W.Sink.holds loop.sink) (g.W.Sink.holds c.send_pred.new.sink) (g.W.Sink.failures c.args.sink.now) (g.W.Sink.failures loop.sink) (g.W.Sink.failures c.send_pred.new.sink) c.in-Err.fault c.loop-number-test.true (same_element preds loop.number-index 0 at c.loop-number-test.true) loop.invariant.0 loop.invariant.1 c.in-Err.ensures

pub loop-number-preserved : goal.loop-number-preserved
loop-number-preserved g c =
    let loop = c.loop-number in
    let preds = c.args.preds.now in
    let at = get_or preds loop.number-index 0 in
    loop_more pred_chunk preds loop.number-index at (g.W.Sink.holds c.args.sink.now) (g.W.Sink.holds loop.sink) (g.W.Sink.holds c.send_pred.new.sink)
    (g.W.Sink.failures c.args.sink.now) (g.W.Sink.failures loop.sink) (g.W.Sink.failures c.send_pred.new.sink)
    c.loop-number-test.true (same_element preds loop.number-index 0 at c.loop-number-test.true) loop.invariant c.in_default.ensures

pub returns : goal.returns
returns g c =
    let loop = c.loop-number in
    let past = c.loop-number-test.false in
    loop_sent pred_chunk c.args.preds.now loop.number-index (g.W.Sink.holds c.args.sink.now) (g.W.Sink.holds loop.sink) (g.W.Sink.failures c.args.sink.now) (g.W.Sink.failures loop.sink)
    (omega arith) loop.invariant
