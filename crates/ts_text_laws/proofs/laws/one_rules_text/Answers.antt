use Rattle.ts_text_laws.proofs.Texts.{one_rules_text}
use Rattle.ts_text_laws.proofs.laws.one_rules_text.Goals as goal

pub returns : goal.returns
returns given = one_rules_text
