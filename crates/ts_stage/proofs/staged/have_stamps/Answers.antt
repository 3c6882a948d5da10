use Rattle.std.proofs.Common.{get_or, sym, ap, ◌∙◌}
use Rattle.ts_model.specs.declared.row.Row.{Row}
use Rattle.ts_model.specs.declared.row.Stamp.{Stamp}
use Rattle.ts_model.specs.Trees.{Listing}
use Rattle.ts_print.specs.Prints.{stamped_row}
use Rattle.ts_stage.specs.Stagings.{Staging, is_held, told_row}
use Rattle.ts_stage.proofs.Telling.{held_at, stamps_at}
use Rattle.ts_stage.proofs.staged.have_stamps.Goals as goal

pub returns-then-not-has_stamp-clause-held : goal.returns-then-not-has_stamp-clause-held
returns-then-not-has_stamp-clause-held c all same =
    let row = c.index-rows-index.result in let stamp = c.index-stamps-index.result in let i = c.loop-index.index in
    c.if-not-has_stamp.ensures.held
    (ap (λ (r : Row Staging). is_held r.content) c.index-rows-index.is ∙ held_at c.args.rows.now i row c.loop-index-test.true all)
    (ap (λ (r : Row Staging). stamped_row (told_row r)) c.index-rows-index.is ∙ sym (stamps_at c.args.rows.now i row stamp c.loop-index-test.true) ∙ ap (λ (z : Listing Stamp). get_or z i stamp) same ∙ sym c.index-stamps-index.is)
