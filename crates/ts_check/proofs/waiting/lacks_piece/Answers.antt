use Rattle.std.proofs.Common.{sym, ap, ◌∙◌}
use Rattle.ts_model.specs.Packed.{kind_lent}
use Rattle.ts_check.proofs.Lacking.{lacks_listed}
use Rattle.ts_check.proofs.Scans.{item_at}
use Rattle.ts_check.proofs.waiting.lacks_piece.Goals as goal

pub returns : goal.returns
returns c =
    let at = item_at c.as_slice.result.now c.args.plan.now.actions c.args.i c.in-Some.action.now c.as_slice.ensures c.in-Some.ensures.lookup.3.0 c.in-Some.ensures.lookup.1 in
    lacks_listed c.args.plan.now c.args.pieces.now c.requires.pieces c.args.i c.in-Commit.entry c.in-Some.action.now c.list.result.now c.lacks_some.result at (sym c.kind.ensures ∙ ap kind_lent c.in-Commit.is) c.list.ensures c.lacks_some.ensures
