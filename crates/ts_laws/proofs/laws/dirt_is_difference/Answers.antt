use Rattle.ts_laws.proofs.Deciding.{dirt_is_difference}
use Rattle.ts_laws.proofs.laws.dirt_is_difference.Goals as goal

pub returns : goal.returns
returns given = λ s on t o lawful printed. dirt_is_difference s on t o lawful printed
