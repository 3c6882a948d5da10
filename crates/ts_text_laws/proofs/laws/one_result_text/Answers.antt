use Rattle.ts_text_laws.proofs.ResultTexts.{one_result_text}
use Rattle.ts_text_laws.proofs.laws.one_result_text.Goals as goal

pub returns : goal.returns
returns given = one_result_text
