use Rattle.std.proofs.Common.{sym, ap, ◌∙◌}
use Rattle.ts_model.specs.declared.row.Row.{Row}
use Rattle.ts_stage.specs.Stagings.{Staging, is_held}
use Rattle.ts_stage.proofs.Telling.{held_more, not_held}
use Rattle.ts_stage.proofs.staged.are_held.Goals as goal

pub returns-then-not-is_in_memory : goal.returns-then-not-is_in_memory
returns-then-not-is_in_memory c =
    let row = c.row-item.result in
    sym (not_held c.args.rows.now c.loop-row.row-index row c.loop-row-test.true (ap (λ (r : Row Staging). is_held r.content) (sym c.row-item.is) ∙ sym c.is_in_memory.ensures ∙ c.if-not-is_in_memory.true))

pub loop-row-preserved : goal.loop-row-preserved
loop-row-preserved c =
    let row = c.row-item.result in
    held_more c.args.rows.now c.loop-row.row-index row c.loop-row-test.true c.loop-row.invariant (ap (λ (r : Row Staging). is_held r.content) (sym c.row-item.is) ∙ sym c.is_in_memory.ensures ∙ c.if-not-is_in_memory.false)
