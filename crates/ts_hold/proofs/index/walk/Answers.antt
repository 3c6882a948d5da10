use Rattle.std.proofs.Common.{ℕ, ◌≡◌, ◌+◌, ◌-◌, ◌<◌, ◌≤◌, length, get_or, sym, ◌∙◌, arith}
use Rattle.std.proofs.lemmas.List.{get_or-map, length-map}
use Rattle.ts_hold.specs.declared.index.Link.{Link}
use Rattle.ts_hold.specs.Chains.{HasNone, IsOn, keys_of, earlier_of, slot_of}
use Rattle.ts_hold.proofs.Chains.{walk_on}
use Rattle.ts_hold.proofs.index.walk.Goals as goal

-- the walk goes on from a number with another key
on : (c : goal.Else-link-key) → let new = (get_or c.args.links.now (c.from-number.result - 1) (record { key = 0; earlier = 0 })).earlier in
    (new ≤ c.from-number.result - 1) × IsOn (keys_of c.args.links.now) (slot_of c.args.key) new × HasNone (keys_of c.args.links.now) c.args.key new c.args.from
on c =
    let none : Link = record { key = 0; earlier = 0 } in
    let number : ℕ = c.from-number.result - 1 in
    let is : c.next.next ≡ number + 1 = omega (arith, c.from-number.ensures, c.next-test.true) in
    let inside : number < length c.args.links.now = omega (arith, c.requires.within, c.next.invariant.within) in
    let inside_keys : number < length (keys_of c.args.links.now) = omega (arith, length-map c.args.links.now (λ (link : Link). link.key)) in
    let key_is : get_or (keys_of c.args.links.now) number 0 ≡ (get_or c.args.links.now number none).key = get_or-map (λ (link : Link). link.key) c.args.links.now number none 0 inside in
    let earlier_is : get_or (earlier_of c.args.links.now) number 0 ≡ (get_or c.args.links.now number none).earlier = get_or-map (λ (link : Link). link.earlier) c.args.links.now number none 0 inside in
    walk_on (earlier_of c.args.links.now) (keys_of c.args.links.now) c.args.key c.args.from c.next.next number _ c.requires.linked is inside_keys c.next.invariant.on c.next.invariant.none
    (λ e. c.if-link-key.false (sym key_is ∙ e)) (sym earlier_is)

pub next-smaller : goal.next-smaller
next-smaller c = omega (arith, (on c).0, c.from-number.ensures, c.next-test.true)

pub next-preserved : goal.next-preserved
next-preserved c = record {
  within = omega (arith, (on c).0, c.from-number.ensures, c.next.invariant.within);
  on = (on c).1;
  none = (on c).2;
}
