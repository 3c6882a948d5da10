use Rattle.ts_hold.proofs.Lookups.{found_in_order}
use Rattle.ts_hold.proofs.holds.path_named.Goals as goal

pub returns-in-Some : goal.returns-in-Some
returns-in-Some c = found_in_order _ _ _ c.place_of.result _ c.requires.order c.is_ok.ensures.value c.place_of.ensures
