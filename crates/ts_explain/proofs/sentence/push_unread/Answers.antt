use Rattle.std.proofs.Common.{sym}
use Rattle.ts_explain.proofs.sentence.push_unread.Goals as goal

pub returns : goal.returns
returns c = rw (sym c.noun.ensures, sym c.name_in.ensures, sym c.can_be_held.ensures, sym c.offer_text.ensures) c.push_pieces.ensures
