use Rattle.ts_text_laws.proofs.Texts.{one_bundle_text}
use Rattle.ts_text_laws.proofs.laws.one_bundle_text.Goals as goal

pub returns : goal.returns
returns given = one_bundle_text
