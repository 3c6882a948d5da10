use Rattle.ts_laws.proofs.Results.{one_answer}
use Rattle.ts_text_laws.proofs.laws.one_answer.Goals as goal

pub returns : goal.returns
returns given = λ b v w m n is h g. one_answer b is v w m n h g
