use Rattle.std.proofs.Common.{codes, sym, ◌∙◌}
use Rattle.ts_plan.proofs.Words.{refuse_whole, refuse_other, differs}
use Rattle.ts_plan.proofs.line.PlanLine.read.Goals as goal

pub returns-in_default : goal.returns-in_default
returns-in_default c = refuse_whole c.args.line.now c.in_default.ensures.none

pub returns-else-is_word-7 : goal.returns-else-is_word-7
returns-else-is_word-7 c = λ l fits same.
    refuse_other c.in-Some.word.now c.in-Some.fields.now c.in-Some.ensures.word (record {
      entry = differs c.in-Some.word.now (codes "entry") c.is_word.result c.is_word.ensures c.if-is_word.false;
      piece = differs c.in-Some.word.now (codes "piece") c.is_word-else-is_word.result c.is_word-else-is_word.ensures c.if-is_word-2.false;
      commit = differs c.in-Some.word.now (codes "commit") c.is_word-else-is_word-2.result c.is_word-else-is_word-2.ensures c.if-is_word-3.false;
      mark = differs c.in-Some.word.now (codes "mark") c.is_word-else-is_word-3.result c.is_word-else-is_word-3.ensures c.if-is_word-4.false;
      pred = differs c.in-Some.word.now (codes "p") c.is_word-else-is_word-4.result c.is_word-else-is_word-4.ensures c.if-is_word-5.false;
      end = differs c.in-Some.word.now (codes "end") c.is_word-else-is_word-5.result c.is_word-else-is_word-5.ensures c.if-is_word-6.false;
      header = differs c.in-Some.word.now (codes "twosync-plan") c.is_word-else-is_word-6.result c.is_word-else-is_word-6.ensures c.if-is_word-7.false;
    }) l fits (sym c.in-Some.ensures.found ∙ same)
