-- Places in memory.
--     spots_in m        what lies at the spots of these places
--     moments_of m      what lay there at each moment, what lies there now as the last
use Rattle.std.specs.Prelude.{List, [], ◌∷◌, ◌++◌}
use Rattle.ts_model.specs.Swap.{Spots}
use Rattle.ts_swap.specs.declared.memory.MemPlaces.{MemPlaces}

abbrev pub spots_in : MemPlaces → Spots
spots_in m = record { target = m.at_target; new = m.at_new; old = m.at_old }

abbrev pub moments_of : MemPlaces → List Spots
moments_of m = m.past.items ++ spots_in m ∷ []
