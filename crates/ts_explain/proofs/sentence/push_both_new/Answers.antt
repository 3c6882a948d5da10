use Rattle.std.proofs.Common.{sym}
use Rattle.ts_explain.proofs.sentence.push_both_new.Goals as goal

pub returns : goal.returns
returns c = rw (sym c.name_in.ensures, sym c.name_in-2.ensures, sym c.name_in-3.ensures) c.push_pieces.ensures
