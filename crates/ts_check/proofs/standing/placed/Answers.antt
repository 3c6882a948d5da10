use Rattle.std.proofs.Common.{refl, sym, subst}
use Rattle.ts_check.specs.Pieces.{IsPlaceOf}
use Rattle.ts_check.proofs.Scans.{item_at, same_kind}
use Rattle.ts_check.proofs.standing.placed.Goals as goal

pub returns-in_default-place_of : goal.returns-in_default-place_of
returns-in_default-place_of c =
    let at = item_at c.as_slice-actions.result.now c.args.plan.now.actions c.args.i c.in-Some.action.now c.as_slice-actions.ensures c.in-Some.ensures.lookup.3.0 c.in-Some.ensures.lookup.1 in
    λ kind place is of. c.in_default-place_of.ensures.none place (subst (λ k. IsPlaceOf c.args.first.now c.args.second.now c.args.plan.now k place) (sym (same_kind c.args.plan.now c.args.i c.in-Some.action.now kind at is)) of)

pub returns : goal.returns
returns c =
    let at = item_at c.as_slice-actions.result.now c.args.plan.now.actions c.args.i c.in-Some.action.now c.as_slice-actions.ensures c.in-Some.ensures.lookup.3.0 c.in-Some.ensures.lookup.1 in
    (refl, (c.in-Some.action.now.kind, (c.in-Some.action.now, at, refl), c.in-Some-place_of.ensures.some))
