use Rattle.std.proofs.Common.{◌≤◌, arith, length}
use Rattle.ts_perform.proofs.Copied.{all_counted}
use Rattle.ts_perform.proofs.spacing.plan_bytes.Goals as goal

pub returns : goal.returns
returns c =
    let actions = c.as_slice-actions.result.now in
    let past : length actions ≤ c.loop-action.action-index = let test = c.loop-action-test.false in omega arith in
    record { bytes = all_counted c.args.plan.now.actions actions c.loop-action.action-index c.loop-action.bytes c.as_slice-actions.ensures past c.loop-action.invariant }
