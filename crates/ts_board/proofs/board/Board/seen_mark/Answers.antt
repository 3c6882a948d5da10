use Rattle.std.proofs.Common.{sym, subst, ap, ◌∙◌}
use Rattle.ts_model.specs.Packed.{kind_lent}
use Rattle.ts_board.specs.Archives.{IsDone}
use Rattle.ts_board.proofs.Flags.{is_done, is_not_done}
use Rattle.ts_board.proofs.board.Board.seen_mark.Goals as goal

pub returns-in-Mark-clause-some : goal.returns-in-Mark-clause-some
returns-in-Mark-clause-some g c = (sym c.kind.ensures ∙ ap kind_lent c.in-Mark.is, subst IsDone c.look.ensures.word (is_done c.look.result c.if-look-ne0.true))

pub returns-in_default-clause-none : goal.returns-in_default-clause-none
returns-in_default-clause-none g c = λ e is one. is_not_done c.look.result c.if-look-ne0.false (subst IsDone (sym c.look.ensures.word) one)
