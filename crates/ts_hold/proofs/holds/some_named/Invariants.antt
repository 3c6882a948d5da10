use Rattle.ts_hold.proofs.Lookups.{NoneLater, left}
use Rattle.ts_hold.proofs.holds.some_named.Given as goal

abbrev pub invariant-next : goal.invariant-next
invariant-next l = NoneLater l.rules l.index l.key l.path l.next

abbrev pub decreases-next : goal.decreases-next
decreases-next l = left l.next
