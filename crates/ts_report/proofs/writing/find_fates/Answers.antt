use Rattle.std.proofs.Common.{◌∙◌, arith}
use Rattle.ts_report.proofs.Fated.{fates_next, none_yet}
use Rattle.ts_report.proofs.writing.find_fates.Goals as goal

pub loop-i-init : goal.loop-i-init
loop-i-init g c = c.in_ok-fates.ensures.fates ∙ none_yet (g.E.Results.endings c.args.results.now) 0 c.args.entries.now

pub loop-i-preserved : goal.loop-i-preserved
loop-i-preserved g c =
    let how = g.E.Results.endings c.args.results.now in
    let next = fates_next how c.args.actions.now c.loop-i.i c.index-actions-i.result c.args.entries.now (omega arith) c.index-actions-i.is in
    cc (next, c.loop-i.invariant, c.settle.ensures, c.own_entry.ensures, c.marks.ensures, c.ending-ending.ensures)
