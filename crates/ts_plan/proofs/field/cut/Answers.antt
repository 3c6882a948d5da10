use Rattle.std.proofs.Common.{sym, ◌∙◌}
use Rattle.ts_name.proofs.Spelling.{no_cut}
use Rattle.ts_plan.proofs.field.cut.Goals as goal

pub returns-in_default-None-clause-none : goal.returns-in_default-None-clause-none
returns-in_default-None-clause-none c word rest e =
    let whole = rw c.in_default-None.is-1 at c.split_word.ensures.rest in
    no_cut 32 c.split_word.result.0.now word rest c.split_word.ensures.word (sym whole ∙ e)
