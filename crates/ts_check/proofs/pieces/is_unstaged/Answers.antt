use Rattle.ts_check.proofs.Scans.{item_at}
use Rattle.ts_check.proofs.Staging.{source_lists}
use Rattle.ts_check.proofs.Complete.{tells_lacks}
use Rattle.ts_check.proofs.pieces.is_unstaged.Goals as goal

pub returns : goal.returns
returns c =
    let xs = c.args.first.now in
    let ys = c.args.second.now in
    let plan = c.args.plan.now in
    let rows = c.in-Some-source_of.rows.now in
    let src = c.in-Some-source_of.ensures.some in
    let at = item_at c.as_slice-entries.result.now plan.entries c.args.e c.in-Some.entry.now c.as_slice-entries.ensures c.in-Some.ensures.lookup.3.0 c.in-Some.ensures.lookup.1 in
    let lists = source_lists xs ys plan c.args.e rows src c.requires.first c.requires.second in
    tells_lacks xs ys plan c.args.staged.now c.requires.staged c.args.e c.in-Some.entry.now rows at lists src c.is_staged.result c.is_staged.ensures.all c.is_staged.ensures.lacking
