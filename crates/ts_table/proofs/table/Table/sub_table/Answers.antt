use Rattle.std.proofs.Common.{◌≡◌, ◌++◌, ◌∷◌, [], sym, ap, ap₂, ◌∙◌}
use Rattle.std.proofs.lemmas.List.{take_all}
use Rattle.ts_table.specs.Tables.{relative, root_row, rows_below}
use Rattle.ts_table.proofs.Relative.{part_of, relative_more, relative_pass}
use Rattle.ts_table.proofs.table.Table.sub_table.Given.{Over}
use Rattle.ts_table.proofs.table.Table.sub_table.Goals as goal
use Rattle.ts_table.proofs.table.Table.sub_table.Goals.{in-Some+in_ok-content+in_ok-push-2, in_default, After-loop-row}

pub loop-row-preserved : goal.loop-row-preserved
loop-row-preserved g c =
    elim c.match-branch-4.branch [
      | in-Some+in_ok-content+in_ok-push-2 w ↦
          ap (λ v. v.items) w.rows-is ∙ w.in_ok-push-2.ensures.items
          ∙ ap₂ ◌++◌ c.loop-row.invariant (ap (λ z. record { path = w.in-Some.rest; content = z } ∷ []) w.in_ok-content.ensures)
          ∙ sym (relative_more c.args.path.now (root_row c.args.path.now) c.sub-below.result.now c.loop-row.row-index c.row-item.result w.in-Some.rest c.loop-row-test.true c.row-item.is (sym w.in-Some.is ∙ c.in_ok-rest.ensures.value))
      | in_default w ↦
          ap (λ v. v.items) w.rows-is ∙ c.loop-row.invariant
          ∙ sym (relative_pass c.args.path.now (root_row c.args.path.now) c.sub-below.result.now c.loop-row.row-index c.row-item.result c.loop-row-test.true c.row-item.is (sym w.in_default.is ∙ c.in_ok-rest.ensures.value))
    ]

-- all rows below the path, as it sees them
seen_from : (g : Over) (c : After-loop-row g) → c.loop-row.rows.items ≡ root_row c.args.path.now ++ relative c.args.path.now (rows_below c.args.path.now c.args.self.now)
seen_from g c =
    c.loop-row.invariant ∙ ap (λ z. root_row c.args.path.now ++ relative c.args.path.now z) (take_all c.loop-row.row-index c.sub-below.result.now c.loop-row-test.false ∙ c.sub-below.ensures.rows)

pub invariant_of-result : goal.invariant_of-result
invariant_of-result g c = let h = part_of c.args.self.now c.args.path.now c.sub-below.ensures.listing in rw (seen_from g c) h.listing

pub returns : goal.returns
returns g c = record { part = let h = part_of c.args.self.now c.args.path.now c.sub-below.ensures.listing in rw (seen_from g c) h.tree }
