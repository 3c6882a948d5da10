use Rattle.std.proofs.Common.{refl}
use Rattle.ts_hold.proofs.Between.{none_more, none_yet}
use Rattle.ts_hold.proofs.holds.named_by_middle.Goals as goal

pub loop-byte-init : goal.loop-byte-init
loop-byte-init c = none_yet c.args.sizes c.args.rules.now c.args.index.now c.args.name.now c.args.path.now

pub loop-byte-preserved : goal.loop-byte-preserved
loop-byte-preserved c = none_more _ _ _ _ _ _ _ _ _ _ c.loop-byte.invariant c.loop-byte-test.true refl c.shifted-number.ensures c.if-named_by_window.ensures
