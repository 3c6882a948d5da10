use Rattle.std.proofs.Common.{◌+◌, ◌-◌, ◌/◌, ◌<◌, length, arith}
use Rattle.ts_hold.proofs.Orders.{greater_above, less_below, rule_read}
use Rattle.ts_hold.proofs.order.place_of.Goals as goal

pub next-preserved-in-Less : goal.next-preserved-in-Less
next-preserved-in-Less c =
    let inside : c.next.low + (c.next.high - c.next.low) / 2 < length c.args.order.now = omega (arith, c.next-test.true, c.next.invariant.within) in
    let number = c.requires.within (c.next.low + (c.next.high - c.next.low) / 2) inside in
    let is = rule_read c.args.rules.now c.args.order.now (c.next.low + (c.next.high - c.next.low) / 2) c.from.result c.index-rules-from.result c.from.ensures
    (omega (arith, number, c.from.ensures)) c.index-rules-from.is in
    record {
      below = omega (arith, c.next-test.true);
      within = c.next.invariant.within;
      less = less_below _ _ _ _ _ c.requires inside is c.in-Less.ensures;
      greater = c.next.invariant.greater;
    }

pub next-preserved : goal.next-preserved
next-preserved c =
    let inside : c.next.low + (c.next.high - c.next.low) / 2 < length c.args.order.now = omega (arith, c.next-test.true, c.next.invariant.within) in
    let number = c.requires.within (c.next.low + (c.next.high - c.next.low) / 2) inside in
    let is = rule_read c.args.rules.now c.args.order.now (c.next.low + (c.next.high - c.next.low) / 2) c.from.result c.index-rules-from.result c.from.ensures
    (omega (arith, number, c.from.ensures)) c.index-rules-from.is in
    record {
      below = omega (arith, c.next-test.true);
      within = omega (arith, inside);
      less = c.next.invariant.less;
      greater = greater_above _ _ _ _ _ c.requires inside is c.in-Greater.ensures;
    }
