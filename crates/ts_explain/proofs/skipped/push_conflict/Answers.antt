use Rattle.std.proofs.Common.{sym}
use Rattle.ts_explain.proofs.skipped.push_conflict.Goals as goal

pub returns : goal.returns
returns c = rw (sym c.word.ensures, sym c.name_in.ensures, sym c.word-2.ensures, sym c.name_in-2.ensures) c.push_pieces.ensures
