use Rattle.ts_laws.proofs.Entries.{nearest_is_parent}
use Rattle.ts_laws.proofs.laws.nearest_dirs_are_parents.Goals as goal

pub returns : goal.returns
returns given = λ s plan lawful reasons complete e d nearest. nearest_is_parent s plan lawful reasons complete e d nearest
