use Rattle.std.proofs.Common.{sym, subst, ap, ◌∙◌}
use Rattle.ts_model.specs.Packed.{kind_lent}
use Rattle.std.specs.Mem.Slots.{slots_items}
use Rattle.ts_board.specs.Archives.{IsDone}
use Rattle.ts_board.proofs.Flags.{is_done, is_not_done}
use Rattle.ts_board.proofs.Passes.{found_there}
use Rattle.ts_board.proofs.board.Closed.done_mark.Goals as goal

pub returns-in-Mark-clause-some : goal.returns-in-Mark-clause-some
returns-in-Mark-clause-some g c =
    (sym c.kind.ensures ∙ ap kind_lent c.in-Mark.is, subst IsDone (found_there (slots_items c.args.self.now.row.words) c.args.i c.word.result c.word.ensures) (is_done c.word.result c.if-word-ne0.true))

pub returns-in_default-clause-none : goal.returns-in_default-clause-none
returns-in_default-clause-none g c = λ e is one.
    is_not_done c.word.result c.if-word-ne0.false (subst IsDone (sym (found_there (slots_items c.args.self.now.row.words) c.args.i c.word.result c.word.ensures)) one)
