use Rattle.std.proofs.Common.{length}
use Rattle.ts_hold.proofs.Lookups.{NoneNearer}
use Rattle.ts_hold.proofs.holds.named_by_end.Given as goal

abbrev pub invariant-next : goal.invariant-next
invariant-next l = NoneNearer l.rules l.index l.name l.path l.key l.rest

abbrev pub decreases-next : goal.decreases-next
decreases-next l = length l.rest
