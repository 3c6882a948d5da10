use Rattle.ts_laws.proofs.Carried.{carried_out}
use Rattle.ts_laws.proofs.laws.carried_out.Goals as goal

pub returns : goal.returns
returns given = λ s plan a b valid lawful are contents. carried_out s plan a b valid lawful are contents
