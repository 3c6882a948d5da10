use Rattle.std.proofs.Common.{ℕ, List, ◌++◌, map, ap, ◌∙◌}
use Rattle.ts_check.proofs.Succeeding.{waits_more}
use Rattle.ts_check.proofs.successors.wait_pairs.Goals as goal

pub loop-i-preserved : goal.loop-i-preserved
loop-i-preserved c =
    waits_more c.args.actions.now c.loop-i.i c.index-actions-i.result c.loop-i.pairs.items c.push_waits.new.pairs.items c.loop-i-test.true c.index-actions-i.is
    (c.in_ok-push_waits.ensures ∙ ap (λ (z : List ℕ). c.loop-i.pairs.items ++ map (λ (j : ℕ). (j, c.loop-i.i)) z) c.preds.ensures) c.loop-i.invariant
