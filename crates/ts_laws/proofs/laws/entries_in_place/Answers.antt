use Rattle.ts_laws.proofs.Places.{entries_in_place}
use Rattle.ts_laws.proofs.laws.entries_in_place.Goals as goal

pub returns : goal.returns
returns given = λ s plan a b valid lawful are. entries_in_place s plan a b valid lawful are
