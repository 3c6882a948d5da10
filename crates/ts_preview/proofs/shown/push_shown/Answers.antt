use Rattle.std.proofs.Common.{◌++◌, arith}
use Rattle.ts_preview.specs.Names.{shown}
use Rattle.ts_preview.proofs.Escapes.{shown_more}
use Rattle.ts_preview.proofs.shown.push_shown.Goals as goal

pub loop-i-preserved : goal.loop-i-preserved
loop-i-preserved c =
    let text = c.args.text.now in let i = c.loop-i.i in
    rw c.saturating_sub-left.ensures
    (shown_more text i c.loop-i.left c.hidden_left-now.result c.loop-i.line.items c.push_byte.new.line.items (c.args.line.now.items ++ shown 0 text) (omega arith)
    c.hidden_left-now.ensures c.in_ok-push_byte.ensures c.loop-i.invariant)
