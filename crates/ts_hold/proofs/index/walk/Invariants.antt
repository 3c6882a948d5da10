use Rattle.std.proofs.Common.{◌≤◌}
use Rattle.ts_hold.specs.Chains.{HasNone, IsOn, keys_of, slot_of}
use Rattle.ts_hold.proofs.index.walk.Given as goal

abbrev pub invariant-next : goal.invariant-next
invariant-next l = record {
  within : l.next ≤ l.from;
  on : IsOn (keys_of l.links) (slot_of l.key) l.next;
  none : HasNone (keys_of l.links) l.key l.next l.from;
}

abbrev pub decreases-next : goal.decreases-next
decreases-next l = l.next
