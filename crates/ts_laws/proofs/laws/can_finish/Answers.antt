use Rattle.ts_laws.proofs.Finishing.{can_finish}
use Rattle.ts_laws.proofs.laws.can_finish.Goals as goal

pub returns : goal.returns
returns given = λ s plan valid. can_finish s plan valid
