use Rattle.std.proofs.Common.{length}
use Rattle.ts_hold.specs.Keys.{IsEndKey}
use Rattle.ts_hold.proofs.keys.end_of.Given as goal

abbrev pub invariant-next : goal.invariant-next
invariant-next l = IsEndKey l.pattern l.key l.rest

abbrev pub decreases-next : goal.decreases-next
decreases-next l = length l.rest
