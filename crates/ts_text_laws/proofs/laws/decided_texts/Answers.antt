use Rattle.ts_text_laws.proofs.ReadTexts.{decide_texts}
use Rattle.ts_text_laws.proofs.laws.decided_texts.Goals as goal

pub returns : goal.returns
returns given = decide_texts
