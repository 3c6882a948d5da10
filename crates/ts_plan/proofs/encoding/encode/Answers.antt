use Rattle.std.proofs.Common.{◌∷◌, [], ◌++◌, length, flat_map, codes, decimal, Err}
use Rattle.ts_plan.specs.Sends.{entry_chunk, action_chunk}
use Rattle.ts_plan.proofs.Sinks.{last_parts, parts_sent, sent_after, sent_behind, sent_short, title}
use Rattle.ts_plan.proofs.encoding.encode.Goals as goal

pub returns-in-Err : goal.returns-in-Err
returns-in-Err g c =
    let es = c.as_slice-entries.result.now in
    let acts = c.as_slice-actions.result.now in
    let h0 = g.W.Sink.holds c.args.sink.now in
    let h1 = g.W.Sink.holds c.send.new.sink in
    let f0 = g.W.Sink.failures c.args.sink.now in
    let f1 = g.W.Sink.failures c.send.new.sink in
    parts_sent c.args.plan.now es acts c.as_slice-entries.ensures c.as_slice-actions.ensures h0 h1 f0 f1 (Err c.in-Err.fault)
    (sent_short h0 h1 f0 f1 title (flat_map entry_chunk es ++ last_parts es acts) c.in-Err.fault c.in-Err.ensures)

pub returns-in-Err-send_entries : goal.returns-in-Err-send_entries
returns-in-Err-send_entries g c =
    let es = c.as_slice-entries.result.now in
    let acts = c.as_slice-actions.result.now in
    let h0 = g.W.Sink.holds c.args.sink.now in
    let h1 = g.W.Sink.holds c.send.new.sink in
    let f0 = g.W.Sink.failures c.args.sink.now in
    let f1 = g.W.Sink.failures c.send.new.sink in
    let h2 = g.W.Sink.holds c.send_entries.new.sink in
    let f2 = g.W.Sink.failures c.send_entries.new.sink in
    let fault = c.in-Err-send_entries.fault in
    parts_sent c.args.plan.now es acts c.as_slice-entries.ensures c.as_slice-actions.ensures h0 h2 f0 f2 (Err fault)
    (sent_after h0 h1 h2 f0 f1 f2 title (flat_map entry_chunk es ++ last_parts es acts) (Err fault) c.in_default.ensures.0 c.in_default.ensures.1
    (sent_short h1 h2 f1 f2 (flat_map entry_chunk es) (last_parts es acts) fault c.in-Err-send_entries.ensures))

pub returns-in-Err-send_actions : goal.returns-in-Err-send_actions
returns-in-Err-send_actions g c =
    let es = c.as_slice-entries.result.now in
    let acts = c.as_slice-actions.result.now in
    let h2 = g.W.Sink.holds c.send_entries.new.sink in
    let f2 = g.W.Sink.failures c.send_entries.new.sink in
    let h3 = g.W.Sink.holds c.send_actions.new.sink in
    let f3 = g.W.Sink.failures c.send_actions.new.sink in
    let fault = c.in-Err-send_actions.fault in
    let end = (codes "end " ++ (decimal (length es) ++ 32 ∷ decimal (length acts))) ++ 10 ∷ [] in
    parts_sent c.args.plan.now es acts c.as_slice-entries.ensures c.as_slice-actions.ensures (g.W.Sink.holds c.args.sink.now) h3 (g.W.Sink.failures c.args.sink.now) f3 (Err fault)
    (sent_behind es acts (g.W.Sink.holds c.args.sink.now) (g.W.Sink.holds c.send.new.sink) h2 h3 (g.W.Sink.failures c.args.sink.now) (g.W.Sink.failures c.send.new.sink) f2 f3 (Err fault)
    c.in_default.ensures c.in_default-send_entries.ensures
    (sent_short h2 h3 f2 f3 (flat_map action_chunk acts) end fault c.in-Err-send_actions.ensures))

pub returns : goal.returns
returns g c =
    let es = c.as_slice-entries.result.now in
    let acts = c.as_slice-actions.result.now in
    let h2 = g.W.Sink.holds c.send_entries.new.sink in
    let f2 = g.W.Sink.failures c.send_entries.new.sink in
    let h4 = g.W.Sink.holds c.send_end.new.sink in
    let f4 = g.W.Sink.failures c.send_end.new.sink in
    let r = c.send_end.result in
    let end = (codes "end " ++ (decimal (length es) ++ 32 ∷ decimal (length acts))) ++ 10 ∷ [] in
    parts_sent c.args.plan.now es acts c.as_slice-entries.ensures c.as_slice-actions.ensures (g.W.Sink.holds c.args.sink.now) h4 (g.W.Sink.failures c.args.sink.now) f4 r
    (sent_behind es acts (g.W.Sink.holds c.args.sink.now) (g.W.Sink.holds c.send.new.sink) h2 h4 (g.W.Sink.failures c.args.sink.now) (g.W.Sink.failures c.send.new.sink) f2 f4 r
    c.in_default.ensures c.in_default-send_entries.ensures
    (sent_after h2 (g.W.Sink.holds c.send_actions.new.sink) h4 f2 (g.W.Sink.failures c.send_actions.new.sink) f4 (flat_map action_chunk acts) end r
    c.in_default-send_actions.ensures.0 c.in_default-send_actions.ensures.1 c.send_end.ensures))
