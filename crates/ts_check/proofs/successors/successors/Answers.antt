use Rattle.std.proofs.Common.{◌∙◌, ap, length, arith}
use Rattle.std.specs.List.{sum_by}
use Rattle.ts_model.specs.declared.plan.Action.{Action}
use Rattle.ts_check.proofs.Succeeding.{count_waits, keys_at, if_all}
use Rattle.ts_check.proofs.successors.successors.Goals as goal

pub of_pairs-requires : goal.of_pairs-requires
of_pairs-requires c = record { keys = keys_at c.args.plan.now c.requires.ascending c.as_slice-actions.result.now c.deref.result.now c.as_slice-actions.ensures (c.deref.ensures.value ∙ c.in_ok-pairs.ensures); few = (let e = ap length (c.deref.ensures.value ∙ c.in_ok-pairs.ensures) in let n = count_waits 0 c.as_slice-actions.result.now in let same = ap (sum_by (λ (a : Action). length a.preds)) c.as_slice-actions.ensures in let h = c.requires.preds in omega arith) }

pub returns : goal.returns
returns c = if_all c.args.plan.now c.requires.ascending c.as_slice-actions.result.now c.deref.result.now c.as_slice-actions.ensures (c.deref.ensures.value ∙ c.in_ok-pairs.ensures) c.of_pairs.result c.of_pairs.ensures.size c.of_pairs.ensures.lists
