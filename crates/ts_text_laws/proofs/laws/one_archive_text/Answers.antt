use Rattle.ts_text_laws.proofs.Texts.{one_archive_text}
use Rattle.ts_text_laws.proofs.laws.one_archive_text.Goals as goal

pub returns : goal.returns
returns given = one_archive_text
