use Rattle.ts_hold.proofs.Lookups.{none_shorter}
use Rattle.ts_hold.proofs.holds.named_by_front.Goals as goal

pub loop-byte-preserved : goal.loop-byte-preserved
loop-byte-preserved c = none_shorter _ _ _ _ _ _ _ _ c.loop-byte.invariant c.loop-byte-test.true c.from.ensures c.mixed-key.ensures c.if-some_named.ensures
