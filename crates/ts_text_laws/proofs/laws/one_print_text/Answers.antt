use Rattle.ts_text_laws.proofs.Texts.{one_print_text}
use Rattle.ts_text_laws.proofs.laws.one_print_text.Goals as goal

pub returns : goal.returns
returns given = one_print_text
