use Rattle.std.proofs.Common.{◌++◌, ◌∷◌, [], sym, ap, ◌∙◌}
use Rattle.ts_table.proofs.Taking.{paths_more, paths_pass}
use Rattle.ts_table.proofs.frame.paths_below.Goals as goal
use Rattle.ts_table.proofs.frame.paths_below.Goals.{in-Some+in_ok-push, in_default}

pub loop-row-preserved : goal.loop-row-preserved
loop-row-preserved g c =
    elim c.match-branch-2.branch [
      | in-Some+in_ok-push w ↦
          ap (λ v. v.items) w.paths-is ∙ w.in_ok-push.ensures.items ∙ ap (λ z. z ++ w.in-Some.path ∷ []) c.loop-row.invariant
          ∙ sym (paths_more c.args.top.now c.args.rows.now c.loop-row.row-index c.row-item.result w.in-Some.path c.loop-row-test.true c.row-item.is (sym w.in-Some.is ∙ c.in_ok-path.ensures.value))
      | in_default w ↦
          ap (λ v. v.items) w.paths-is ∙ c.loop-row.invariant
          ∙ sym (paths_pass c.args.top.now c.args.rows.now c.loop-row.row-index c.row-item.result c.loop-row-test.true c.row-item.is (sym w.in_default.is ∙ c.in_ok-path.ensures.value))
    ]
