use Rattle.std.proofs.Common.{arith}
use Rattle.ts_plan.specs.Sends.{entry_chunk}
use Rattle.ts_plan.proofs.Sinks.{loop_failed, loop_more, loop_sent}
use Rattle.ts_plan.proofs.encoding.send_entries.Goals as goal

pub returns-in-Err : goal.returns-in-Err
returns-in-Err g c =
    let loop = c.loop-entry in
    loop_failed entry_chunk c.args.entries.now loop.entry-index c.entry-item.result (g.W.Sink.holds c.args.sink.now) (g.W.Sink.holds loop.sink) (g.W.Sink.holds c.send_entry.new.sink) (g.W.Sink.failures c.args.sink.now) (g.W.Sink.failures loop.sink) (g.W.Sink.failures c.send_entry.new.sink) c.in-Err.fault c.loop-entry-test.true c.entry-item.is loop.invariant.0 loop.invariant.1 c.in-Err.ensures

pub loop-entry-preserved : goal.loop-entry-preserved
loop-entry-preserved g c =
    let loop = c.loop-entry in
    loop_more entry_chunk c.args.entries.now loop.entry-index c.entry-item.result (g.W.Sink.holds c.args.sink.now) (g.W.Sink.holds loop.sink) (g.W.Sink.holds c.send_entry.new.sink)
    (g.W.Sink.failures c.args.sink.now) (g.W.Sink.failures loop.sink) (g.W.Sink.failures c.send_entry.new.sink)
    c.loop-entry-test.true c.entry-item.is loop.invariant c.in_default.ensures

pub returns : goal.returns
returns g c =
    let loop = c.loop-entry in
    let past = c.loop-entry-test.false in
    loop_sent entry_chunk c.args.entries.now loop.entry-index (g.W.Sink.holds c.args.sink.now) (g.W.Sink.holds loop.sink) (g.W.Sink.failures c.args.sink.now) (g.W.Sink.failures loop.sink)
    (omega arith) loop.invariant
