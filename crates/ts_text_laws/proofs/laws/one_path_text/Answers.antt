use Rattle.ts_text_laws.proofs.Texts.{one_path_text}
use Rattle.ts_text_laws.proofs.laws.one_path_text.Goals as goal

pub returns : goal.returns
returns given = one_path_text
