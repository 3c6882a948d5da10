use Rattle.std.proofs.Common.{◌∙◌}
use Rattle.rayon.proofs.ListFacts.{IfOk-then}
use Rattle.ts_check.proofs.Placing.{are_places_between}
use Rattle.ts_check.proofs.standing.places_between.Goals as goal

pub returns : goal.returns
returns g c =
    let ends = c.into_par_iter.ensures in
    IfOk-then c.collect.result _ _ c.collect.ensures (λ v h.
    let chain = rw (c.filter_map.ensures.base, c.filter_map.ensures.f) at h.1 in
    are_places_between c.args.first.now c.args.second.now c.args.plan.now c.args.from c.args.to _ _ chain.0 chain.1 v.items c.requires.between ends chain.2 chain.3 (h.2 ∙ chain.4))
