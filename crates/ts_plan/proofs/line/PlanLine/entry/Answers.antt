use Rattle.std.proofs.Common.{sym, ◌∙◌}
use Rattle.ts_name.proofs.Spelling.{cut_at}
use Rattle.ts_name.specs.Paths.{path_text}
use Rattle.ts_model.specs.Texts.{reason_text}
use Rattle.ts_plan.proofs.Words.{reason_word, refuse_entry}
use Rattle.ts_plan.proofs.line.PlanLine.entry.Goals as goal

pub returns-in_default-reason_field : goal.returns-in_default-reason_field
returns-in_default-reason_field c =
    refuse_entry c.args.fields.now (λ e fits same.
    let parts = cut_at 32 c.in-Some.word.now (reason_text e.reason) c.in-Some.text.now (path_text e.path) c.in-Some.ensures.word (reason_word e.reason) (sym c.in-Some.ensures.found ∙ same) in
    c.in_default-reason_field.ensures.none e.reason parts.0)
