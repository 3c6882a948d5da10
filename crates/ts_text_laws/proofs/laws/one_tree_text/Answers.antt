use Rattle.ts_text_laws.proofs.Texts.{one_tree_text}
use Rattle.ts_text_laws.proofs.laws.one_tree_text.Goals as goal

pub returns : goal.returns
returns given = one_tree_text
