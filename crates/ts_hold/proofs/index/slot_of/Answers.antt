use Rattle.std.proofs.Common.{refl}
use Rattle.ts_hold.specs.Chains.{slot_of}
use Rattle.ts_hold.proofs.index.slot_of.Goals as goal

pub returns : goal.returns
unfolding slot_of
returns c = refl
