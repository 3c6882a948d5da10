use Rattle.std.proofs.Common.{sym, ap, ◌∙◌}
use Rattle.std.proofs.lemmas.Bool.{true≢false}
use Rattle.ts_model.specs.Trees.{listed, print_of}
use Rattle.ts_print.specs.Prints.{stamped_rows}
use Rattle.ts_site.proofs.Differing.{other_print}
use Rattle.ts_site.proofs.memory.MemSiteSite.commit.Goals as goal

pub returns-in-Ok-false-clause-changed : goal.returns-in-Ok-false-clause-changed
returns-in-Ok-false-clause-changed c = λ is same.
    other_print c.self.inside.content c.args.before.now.rows c.rows.ensures.lawful.listing c.in-Ok-false.ensures.lawful
    (λ equal. true≢false (sym (c.in-Ok-false.ensures.answer.1 (ap stamped_rows c.rows.ensures.rows ∙ equal)) ∙ c.in-Ok-false.field-0-test))
    (ap (λ rows. print_of (listed rows)) c.self.view_is ∙ same)
