use Rattle.ts_laws.proofs.Entries.{entries_are_reasons}
use Rattle.ts_laws.proofs.laws.entries_are_reasons.Goals as goal

pub returns : goal.returns
returns given = λ s plan lawful valid. entries_are_reasons s plan lawful valid
