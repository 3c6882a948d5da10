use Rattle.std.proofs.Common.{refl}
use Rattle.ts_hold.specs.Mixing.{mixed}
use Rattle.ts_hold.proofs.keys.mixed.Goals as goal

pub returns : goal.returns
unfolding mixed
returns c = refl
