use Rattle.std.proofs.Common.{◌∙◌, ap, length, arith}
use Rattle.ts_check.proofs.InOrder.{all_found}
use Rattle.ts_check.proofs.PieceLists.{count_pairs, keys_at, if_all}
use Rattle.ts_check.proofs.piece_lists.piece_lists.Goals as goal

pub of_pairs-requires : goal.of_pairs-requires
of_pairs-requires c = record {
  keys = keys_at c.args._first.now c.args._second.now c.requires.first c.requires.second c.args.plan.now c.args.staged.now c.requires.staged (all_found c.args.staged.now c.requires.order) c.as_slice.result.now c.deref.result.now c.as_slice.ensures (c.deref.ensures.value ∙ c.in_ok-pairs.ensures);
  few = (let e = ap length (c.deref.ensures.value ∙ c.in_ok-pairs.ensures) in let n = count_pairs c.args.staged.now in let h = c.requires.few in omega arith);
}

pub returns : goal.returns
returns c =
    if_all c.args._first.now c.args._second.now c.requires.first c.requires.second c.args.plan.now c.args.staged.now c.requires.staged (all_found c.args.staged.now c.requires.order) c.requires.order c.as_slice.result.now c.deref.result.now c.as_slice.ensures
    (c.deref.ensures.value ∙ c.in_ok-pairs.ensures) c.of_pairs.result c.of_pairs.ensures.size c.of_pairs.ensures.lists
