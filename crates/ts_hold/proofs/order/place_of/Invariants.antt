use Rattle.std.proofs.Common.{◌≡◌, ◌-◌, ◌<◌, ◌≤◌, ℕ, length}
use Rattle.std.specs.declared.cmp.Ordering.TheVariants.{Less, Greater}
use Rattle.ts_hold.specs.Orders.{rule_at, rule_order}
use Rattle.ts_hold.proofs.order.place_of.Given as goal

abbrev pub invariant-next : goal.invariant-next
invariant-next l = record {
  below : l.low ≤ l.high;
  within : l.high ≤ length l.order;
  less : (k : ℕ) → k < l.low → rule_order (rule_at l.rules l.order k) l.path ≡ Less;
  greater : (k : ℕ) → l.high ≤ k → k < length l.order → rule_order (rule_at l.rules l.order k) l.path ≡ Greater;
}

abbrev pub decreases-next : goal.decreases-next
decreases-next l = l.high - l.low
