use Rattle.std.proofs.Common.{◌≡◌, ◌<◌, get_or, length, sym, ap, ◌∙◌, subst, arith}
use Rattle.ts_hold.specs.Chains.{IsEarlier, IsOn, keys_of, slot_of}
use Rattle.ts_hold.proofs.Chains.{found_below, key_at, length-keys, linked_at}
use Rattle.ts_hold.proofs.index.Index.before.Goals as goal
use Rattle.ts_hold.proofs.index.Index.before.Goals.{After-deref}

inside : (c : After-deref) → c.args.number < length (keys_of c.self.inside.links.items)
inside c = omega (arith, c.requires, ap length c.self.view_is)

-- the link of the number
at : (c : After-deref) → IsEarlier (keys_of c.self.inside.links.items) c.args.number (slot_of c.index-link.result.now.key) c.index-link.result.now.earlier
at c = linked_at c.self.inside.heads.items c.self.inside.links.items c.args.number c.index-link.result.now c.self.invariant (inside c) c.index-link.ensures

pub walk-requires-clause-on : goal.walk-requires-clause-on
walk-requires-clause-on c = subst (λ z. IsOn (keys_of z) (slot_of c.index-link.result.now.key) c.index-link.result.now.earlier) (sym c.deref.ensures.value) (at c).on

pub walk-requires-clause-within : goal.walk-requires-clause-within
walk-requires-clause-within c = omega (arith, (at c).within, inside c, ap length c.deref.ensures.value, length-keys c.self.inside.links.items)

pub returns : goal.returns
returns c =
    let d = (goal.at.returns c).After-deref in
    let inside_links : c.args.number < length c.self.inside.links.items = omega (arith, inside d, length-keys c.self.inside.links.items) in
    let is = key_at c.self.inside.links.items c.args.number c.index-link.result.now inside_links c.index-link.ensures in
    let key_is : get_or c.args.self.now c.args.number 0 ≡ c.index-link.result.now.key = ap (λ z. get_or z c.args.number 0) (sym c.self.view_is) ∙ is in
    rw key_is (found_below c.args.self.now (keys_of c.deref.result.now) c.index-link.result.now.key c.args.number c.index-link.result.now.earlier c.walk.result
    (ap keys_of c.deref.ensures.value ∙ c.self.view_is)
    (subst (λ z. IsEarlier z c.args.number (slot_of c.index-link.result.now.key) c.index-link.result.now.earlier) c.self.view_is (at d)) c.walk.ensures)
