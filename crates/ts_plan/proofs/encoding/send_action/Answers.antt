use Rattle.std.proofs.Common.{◌∷◌, [], ◌++◌, map, flat_map, sym, subst}
use Rattle.ts_model.specs.Texts.{text, kind_line, pred_line}
use Rattle.ts_plan.specs.Sends.{Sends, pred_chunk}
use Rattle.ts_plan.proofs.Sinks.{sent_after, sent_short, action_sent}
use Rattle.ts_plan.proofs.encoding.send_action.Goals as goal

pub returns-in-Err : goal.returns-in-Err
returns-in-Err g c =
    let action = c.args.action.now in
    sent_short (g.W.Sink.holds c.args.sink.now) (g.W.Sink.holds c.send_kind.new.sink) (g.W.Sink.failures c.args.sink.now) (g.W.Sink.failures c.send_kind.new.sink)
    (kind_line action.kind ++ 10 ∷ []) (text (map pred_line action.preds)) c.in-Err.fault c.in-Err.ensures

pub returns : goal.returns
returns g c =
    let action = c.args.action.now in
    let old = g.W.Sink.holds c.args.sink.now in
    let mid = g.W.Sink.holds c.send_kind.new.sink in
    let new = g.W.Sink.holds c.send_preds.new.sink in
    let a = g.W.Sink.failures c.args.sink.now in
    let b = g.W.Sink.failures c.send_kind.new.sink in
    let d = g.W.Sink.failures c.send_preds.new.sink in
    let preds = subst (λ l. Sends {A = Unit {0}} mid new b d (flat_map pred_chunk l) c.send_preds.result) c.preds.ensures c.send_preds.ensures in
    subst (λ z. Sends {A = Unit {0}} old new a d z c.send_preds.result) (sym (action_sent action))
    (sent_after old mid new a b d (kind_line action.kind ++ 10 ∷ []) (flat_map pred_chunk action.preds) c.send_preds.result c.in_default.ensures.0 c.in_default.ensures.1 preds)
