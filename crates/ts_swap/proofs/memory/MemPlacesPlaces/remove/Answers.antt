use Rattle.std.proofs.Common.{◌∙◌, refl}
use Rattle.ts_model.specs.Swap.{spot}
use Rattle.ts_swap.specs.Leavings.{spot_of}
use Rattle.ts_swap.specs.Memory.{spots_in}
use Rattle.ts_swap.proofs.Moving.{as_it_was}
use Rattle.ts_swap.proofs.memory.MemPlacesPlaces.remove.Goals as goal

pub returns-then-stumbles-clause-left : goal.returns-then-stumbles-clause-left
returns-then-stumbles-clause-left c = let s = spots_in c.args.self.now in
    (spots_in c.stumbles.new.self, refl, (spot s (spot_of c.args.spot), c.stumbles.ensures.spots ∙ as_it_was s (spot_of c.args.spot)))

pub returns-then-is_err-clause-left : goal.returns-then-is_err-clause-left
returns-then-is_err-clause-left c = let s = spots_in c.args.self.now in
    (spots_in c.remember.new.self, refl, (spot s (spot_of c.args.spot), c.remember.ensures.spots ∙ c.stumbles.ensures.spots ∙ as_it_was s (spot_of c.args.spot)))
