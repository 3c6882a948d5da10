use Rattle.ts_text_laws.proofs.Trials.{some_answer}
use Rattle.ts_text_laws.proofs.laws.some_answer.Goals as goal

pub returns : goal.returns
returns given = λ b is contents. some_answer b is contents
