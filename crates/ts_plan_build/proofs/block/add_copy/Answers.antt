use Rattle.std.proofs.Common.{◌≡◌, ◌++◌, List, length, sym, ap, ◌∙◌, append-nil, arith}
use Rattle.std.proofs.lemmas.List.{take_all}
use Rattle.std.proofs.lemmas.Result.{err_from_is_err_and, on_ok_weaker}
use Rattle.ts_model.specs.declared.row.Row.{Row}
use Rattle.ts_model.specs.declared.row.Stamp.{Stamp}
use Rattle.ts_plan_build.specs.Blocks.{pieces_of}
use Rattle.ts_plan_build.proofs.Added.{copy_added, file_pieces, no_pieces, row_more}
use Rattle.ts_plan_build.proofs.Counting.{IfErr-map}
use Rattle.ts_plan_build.proofs.Past.{past_in_rows, past_at_commit, past_at_mark}
use Rattle.ts_plan_build.proofs.block.add_copy.Goals as goal
use Rattle.ts_plan_build.proofs.block.add_copy.Goals.{in-File+in_ok-add_file, in_default}

pub returns-in_err-add_file-clause-past : goal.returns-in_err-add_file-clause-past
returns-in_err-add_file-clause-past c =
    let p = err_from_is_err_and c.from_residual.result c.from_residual.ensures.1 in
    rw (p.1, p.2) (λ e. past_in_rows 1048576 c.args.entry c.loop-row.row-index c.in-File.stamp.size c.args.rows.now c.row-item.result c.in-File.stamp c.args.actions.now.items c.loop-row.actions.items c.loop-row.invariant.0 c.loop-row-test.true
    c.row-item.is c.in-File.is (c.in_err-add_file.ensures.past e))

pub returns-in_err-push-clause-past : goal.returns-in_err-push-clause-past
returns-in_err-push-clause-past c =
    let p = err_from_is_err_and c.from_residual-in_err-push.result c.from_residual-in_err-push.ensures.1 in
    rw (p.1, p.2) (λ e. past_at_commit 1048576 c.args.entry c.loop-row.row-index c.args.rows.now c.args.actions.now.items c.loop-row.actions.items c.loop-row.invariant.0 c.loop-row-test.false (c.in_err-push.ensures.past e))

pub returns-clause-past : goal.returns-clause-past
returns-clause-past c =
    IfErr-map c.add_mark.result (λ fault told e. past_at_mark 1048576 c.args.entry c.loop-row.row-index c.args.rows.now _ c.args.actions.now.items c.loop-row.actions.items c.push.new.actions.items c.loop-row.invariant.0 c.loop-row-test.false
    c.in_ok-push.ensures.added (told e))
    c.add_mark.ensures.past

pub loop-row-preserved : goal.loop-row-preserved
loop-row-preserved c =
    let before = c.args.actions.now.items in
    let so_far = c.loop-row.actions.items in
    elim c.match-row.branch [
      | in-File+in_ok-add_file w ↦ rw w.actions-is (
        row_more c.args.entry c.loop-row.row-index c.args.rows.now c.row-item.result before so_far w.add_file.new.actions.items c.loop-row.invariant.0 c.loop-row-test.true c.row-item.is
            (w.in_ok-add_file.ensures.added ∙ ap (λ z. so_far ++ z) (file_pieces c.args.entry c.row-item.result w.in-File.stamp w.in-File.is)),
        w.in_ok-add_file.ensures.limit,
      )
      | in_default w ↦ rw w.actions-is (
        row_more c.args.entry c.loop-row.row-index c.args.rows.now c.row-item.result before so_far so_far c.loop-row.invariant.0 c.loop-row-test.true c.row-item.is
            (sym (append-nil so_far) ∙ ap (λ z. so_far ++ z) (sym (no_pieces c.args.entry c.row-item.result w.in_default.not-File))),
        c.loop-row.invariant.1,
      )
    ]

pub returns-clause-added : goal.returns-clause-added
returns-clause-added c =
    let before = c.args.actions.now.items in
    let so_far = c.loop-row.actions.items in
    let from : c.len-from.result ≡ length before = omega (arith, c.len-from.ensures, c.args.actions.now.ok) in
    let to : c.len-to.result ≡ length so_far = omega (arith, c.len-to.ensures, c.loop-row.actions.ok) in
    let all = c.loop-row.invariant.0 ∙ ap (λ (r : List (Row Stamp)). before ++ pieces_of c.args.entry r) (take_all c.loop-row.row-index c.args.rows.now c.loop-row-test.false) in
    on_ok_weaker c.add_mark.result (λ mark.
    copy_added c.args.entry c.args.rows.now c.args.above before so_far c.push.new.actions.items c.add_mark.new.actions.items c.len-from.result c.len-to.result c.in_ok-pieces.pieces
    from all to (c.in_ok-pieces.ensures ∙ c.in_ok-numbers.ensures) c.in_ok-push.ensures.added mark)
    c.add_mark.ensures.added
