use Rattle.std.proofs.Common.{ap, length, arith}
use Rattle.std.proofs.lemmas.Option.{slice_get_within}
use Rattle.ts_check.specs.Waiting.{HasBadPreds}
use Rattle.ts_check.proofs.Answered.{first_wrong}
use Rattle.ts_check.proofs.waiting.first_bad_preds.Goals as goal

pub returns : goal.returns
returns g c = first_wrong _ (HasBadPreds c.args.plan.now) (λ p b h. h) _
    (λ k bad. let h = slice_get_within c.args.plan.now.actions k bad.0 bad.1 in let e = ap length c.as_slice-count.ensures in omega arith) c.first_where.result c.first_where.ensures
