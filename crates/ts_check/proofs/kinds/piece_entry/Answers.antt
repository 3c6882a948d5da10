use Rattle.std.proofs.Common.{sym, ap, ◌∙◌}
use Rattle.ts_model.specs.Packed.{kind_lent}
use Rattle.ts_check.proofs.Scans.{item_at}
use Rattle.ts_check.proofs.kinds.piece_entry.Goals as goal

pub returns-in-Piece-clause-some : goal.returns-in-Piece-clause-some
returns-in-Piece-clause-some c =
    let at = item_at c.as_slice-actions.result.now c.args.plan.now.actions c.args.k c.index-actions-i.result c.as_slice-actions.ensures c.if-i-actions.false c.index-actions-i.is in
    (c.in-Piece.offset, c.in-Piece.length, c.in-Piece.path.now, (c.index-actions-i.result, at, sym c.kind.ensures ∙ ap kind_lent c.in-Piece.is))
