use Rattle.std.proofs.Common.{decimal, sym, ◌∙◌}
use Rattle.ts_name.proofs.Spelling.{cut_at}
use Rattle.ts_plan.proofs.Words.{decimal_word}
use Rattle.ts_plan.proofs.field.number_then.Goals as goal

pub returns-in-None-clause-none : goal.returns-in-None-clause-none
returns-in-None-clause-none c n rest small e =
    let parts = cut_at 32 c.in-Some.word.now (decimal n) c.in-Some.rest.now rest c.in-Some.ensures.word (decimal_word n small) (sym c.in-Some.ensures.found ∙ e) in
    c.in-None.ensures.none n small parts.0
