use Rattle.ts_laws.proofs.Carried.{leaves_carried}
use Rattle.ts_laws.proofs.laws.complete_runs_leave_the_same.Goals as goal

pub returns : goal.returns
returns given = λ s plan valid. leaves_carried s plan valid
