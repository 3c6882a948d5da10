use Rattle.std.proofs.Common.{sym, ap, ◌∙◌}
use Rattle.std.proofs.lemmas.Bool.{false≢true}
use Rattle.ts_model.specs.Packed.{kind_lent}
use Rattle.ts_model.proofs.Lent.{lent_no_piece}
use Rattle.ts_check.proofs.Scans.{item_at}
use Rattle.ts_check.proofs.Staging.{no_piece, unlawful_here}
use Rattle.ts_check.proofs.pieces.is_unlawful.Goals as goal

pub returns : goal.returns
returns c =
    let at = item_at c.as_slice-actions.result.now c.args.plan.now.actions c.args.i c.in-Some.action.now c.as_slice-actions.ensures c.in-Some.ensures.lookup.3.0 c.in-Some.ensures.lookup.1 in
    unlawful_here c.args.first.now c.args.second.now c.args.plan.now c.args.i c.in-Piece.entry c.in-Piece.offset c.in-Piece.length c.in-Piece.path.now c.in-Some.action.now c.is_piece.result at (sym c.kind.ensures ∙ ap kind_lent c.in-Piece.is) c.is_piece.ensures

pub returns-in_default-kind : goal.returns-in_default-kind
returns-in_default-kind c =
    let at = item_at c.as_slice-actions.result.now c.args.plan.now.actions c.args.i c.in-Some.action.now c.as_slice-actions.ensures c.in-Some.ensures.lookup.3.0 c.in-Some.ensures.lookup.1 in
    (λ wrong. absurd (false≢true wrong), λ bad. absurd (no_piece c.args.first.now c.args.second.now c.args.plan.now c.args.i c.in-Some.action.now at (λ e o l p is. lent_no_piece c.kind.result c.in_default-kind.not-Piece e o l p (c.kind.ensures ∙ is)) bad))
