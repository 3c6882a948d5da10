use Rattle.std.proofs.Common.{◌≡◌, ◌++◌, ◌∷◌, [], ◌+◌, drop, sym, ap, ap₂, ◌∙◌, append_assoc}
use Rattle.ts_model.specs.declared.row.Row.{Row}
use Rattle.ts_stage.specs.Assemblies.{begun, begun_rows}
use Rattle.ts_stage.specs.Stagings.{Staging, all_held, both, told_rows}
use Rattle.ts_stage.proofs.Telling.{begun_drop, held_push, told_push}
use Rattle.ts_stage.proofs.staged.without_bytes.Goals as goal

pub loop-row-preserved : goal.loop-row-preserved
loop-row-preserved c =
    let rows = c.args.rows.now in let i = c.loop-row.row-index in let row = c.row-item.result in let made = c.loop-row.made.items in
    let next : Row Staging = record { path = c.in_ok-path.path; content = c.begun-content.result } in
    let rest = begun_rows (drop (i + 1) rows) in
    let same : told_rows (next ∷ []) ++ rest ≡ begun_rows (drop i rows) =
    ap₂ (λ p x. record { path = p; content = x } ∷ rest) (c.in_ok-path.ensures.value ∙ ap (λ r. r.path) c.row-item.is) (c.begun-content.ensures.told ∙ ap (λ r. begun r.content) c.row-item.is)
    ∙ sym (begun_drop rows i row c.loop-row-test.true) in (
      ap (λ z. told_rows z ++ rest) c.in_ok-push.ensures.items ∙ ap (λ z. z ++ rest) (told_push made next) ∙ append_assoc (told_rows made) (told_rows (next ∷ [])) rest
          ∙ ap (λ z. told_rows made ++ z) same ∙ c.loop-row.invariant.0,
      ap all_held c.in_ok-push.ensures.items ∙ held_push made next ∙ ap₂ both c.loop-row.invariant.1 c.begun-content.ensures.held,
    )
