use Rattle.ts_text_laws.proofs.Bundles.{one_trial}
use Rattle.ts_text_laws.proofs.laws.one_trial.Goals as goal

pub returns : goal.returns
returns given = λ bytes v w m n h g. one_trial bytes v w m n h g
