use Rattle.std.proofs.Common.{sym, ap, ◌∙◌}
use Rattle.ts_model.specs.Packed.{kind_lent}
use Rattle.ts_check.proofs.Placing.{no_place}
use Rattle.ts_check.proofs.standing.place_of.Goals as goal

pub returns-in_err-row-clause-none : goal.returns-in_err-row-clause-none
returns-in_err-row-clause-none c = rw c.from_residual-in_err-row.ensures
    (no_place c.args.first.now c.args.second.now c.requires.first c.requires.second c.args.plan.now c.args.action.now.kind c.in-Piece.entry c.in-Piece.offset c.in-Piece.length c.in-Piece.path.now c.in_ok-side.rows.now (sym c.kind.ensures ∙ ap kind_lent c.in-Piece.is) c.in_ok-side.ensures.some c.in_err-row.ensures)
