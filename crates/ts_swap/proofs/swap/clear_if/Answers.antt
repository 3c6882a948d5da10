use Rattle.std.proofs.Common.{refl}
use Rattle.ts_swap.proofs.Outcomes.{counts_then, removal_ends, no_removal, no_stop}
use Rattle.ts_swap.proofs.Stops.{removing}
use Rattle.ts_swap.proofs.swap.clear_if.Goals as goal

pub returns-then-there : goal.returns-then-there
returns-then-there g c = record {
  counted = counts_then _ _ _ _ refl c.remove.ensures.counted;
  done = removal_ends _ _ _ _ _ c.if-there.true c.remove.ensures.left;
  stops = removing _ _ _ _ _ c.if-there.true c.remove.ensures.stops;
}

pub returns-else-there : goal.returns-else-there
returns-else-there g c = record {
  counted = refl;
  done = no_removal _ _ _ c.if-there.false;
  stops = no_stop _ _ _ _ c.if-there.false;
}
