use Rattle.std.proofs.Common.{◌≡◌, length, ap, ◌∙◌, subst, arith}
use Rattle.ts_hold.specs.Chains.{HasNone, IsEarlier, slot_of, keys_of}
use Rattle.ts_hold.proofs.Chains.{begun_at, found_below, length-keys, no_head}
use Rattle.ts_hold.proofs.index.Index.last.Goals as goal
use Rattle.ts_hold.proofs.index.Index.last.Goals.{After-deref-2}

-- the head of the key's chain
at : (c : After-deref-2) → IsEarlier c.args.self.now (length c.args.self.now) (slot_of c.args.key) c.in_ok-head.field-0.now
at c =
    let inside = c.in_ok-head.ensures.lookup.3 in
    subst (λ z. IsEarlier z (length z) (slot_of c.args.key) c.in_ok-head.field-0.now) c.self.view_is
    (begun_at _ _ _ _ _ _ _ c.self.invariant c.deref.ensures.value c.slot_of.ensures inside.0 (inside.1 0))

links_are : (c : After-deref-2) → keys_of c.deref-2.result.now ≡ c.args.self.now
links_are c = ap keys_of c.deref-2.ensures.value ∙ c.self.view_is

pub returns-in_err-head : goal.returns-in_err-head
returns-in_err-head c =
    rw c.from_residual.ensures (subst (λ z. HasNone z c.args.key 0 (length z)) c.self.view_is
    (no_head _ _ _ c.args.key c.self.invariant (omega (arith, c.in_err-head.ensures.lookup.3, c.slot_of.ensures, ap length c.deref.ensures.value))))

pub walk-requires-clause-within : goal.walk-requires-clause-within
walk-requires-clause-within c = omega (arith, (at c).within, ap length (links_are c), length-keys c.deref-2.result.now)

pub returns : goal.returns
returns c =
    let d = (goal.at.returns c).After-deref-2 in
    found_below _ _ c.args.key _ _ c.walk.result (links_are d) (at d) c.walk.ensures
