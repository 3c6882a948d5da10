use Rattle.ts_text_laws.proofs.Texts.{one_plan_text}
use Rattle.ts_text_laws.proofs.laws.one_plan_text.Goals as goal

pub returns : goal.returns
returns given = one_plan_text
