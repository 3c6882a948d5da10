use Rattle.std.proofs.lemmas.Option.{slice_get_within}
use Rattle.ts_model.specs.Plans.{IsOutOfOrder}
use Rattle.ts_check.proofs.Answered.{first_wrong}
use Rattle.ts_check.proofs.entries.first_out_of_order.Goals as goal

pub returns : goal.returns
returns g c = first_wrong _ (IsOutOfOrder c.args.entries.now) (λ p b h. h) _ (λ k wrong. slice_get_within c.args.entries.now k wrong.2 wrong.5) c.first_where.result c.first_where.ensures
