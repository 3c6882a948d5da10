use Rattle.ts_text_laws.proofs.ReadTexts.{some_trial}
use Rattle.ts_text_laws.proofs.laws.some_trial.Goals as goal

pub returns : goal.returns
returns given = λ bytes contents. some_trial bytes contents
