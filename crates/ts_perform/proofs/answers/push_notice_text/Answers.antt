use Rattle.std.proofs.Common.{sym}
use Rattle.ts_perform.proofs.answers.push_notice_text.Goals as goal

pub returns-in-Kept : goal.returns-in-Kept
returns-in-Kept c = rw (c.in-Kept.is, sym c.as_str.ensures.value) c.push_pieces-in-Kept.ensures

pub returns-in-Mounted : goal.returns-in-Mounted
returns-in-Mounted c = rw c.in-Mounted.is c.push_pieces-in-Mounted.ensures
