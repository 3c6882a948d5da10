use Rattle.std.proofs.Common.{length}
use Rattle.ts_hold.specs.Fronts.{Passed}
use Rattle.ts_hold.proofs.pattern.match_front.Given as goal

abbrev pub invariant-next : goal.invariant-next
invariant-next l = Passed l.pattern l.name l.symbols l.bytes

abbrev pub decreases-next : goal.decreases-next
decreases-next l = length l.symbols
