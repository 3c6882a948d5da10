use Rattle.std.proofs.Common.{ap, length, arith}
use Rattle.std.proofs.lemmas.Option.{slice_get_within}
use Rattle.ts_check.specs.Pieces.{LacksSome}
use Rattle.ts_check.proofs.Answered.{first_wrong}
use Rattle.ts_check.proofs.pieces.first_unstaged.Goals as goal

pub returns : goal.returns
returns g c = first_wrong _ (LacksSome c.args.first.now c.args.second.now c.args.plan.now) (λ p b h. h) _
    (λ k lacks. let h = slice_get_within c.args.plan.now.entries k lacks.3.0 lacks.3.3.0 in let e = ap length c.as_slice-count.ensures in omega arith) c.first_where.result c.first_where.ensures
