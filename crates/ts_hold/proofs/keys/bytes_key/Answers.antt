use Rattle.ts_hold.proofs.Lookups.{front_key_more}
use Rattle.ts_hold.proofs.keys.bytes_key.Goals as goal

pub loop-byte-preserved : goal.loop-byte-preserved
loop-byte-preserved c = front_key_more _ _ _ _ _ c.loop-byte-test.true c.loop-byte.invariant c.from.ensures c.mixed-key.ensures
