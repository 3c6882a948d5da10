use Rattle.std.proofs.Common.{sym}
use Rattle.ts_explain.proofs.sentence.push_bad_line.Goals as goal

pub returns : goal.returns
returns c = rw (sym c.name_in.ensures) c.push_pieces.ensures
