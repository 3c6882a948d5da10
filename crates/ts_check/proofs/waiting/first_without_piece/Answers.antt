use Rattle.std.proofs.Common.{ap, length, arith}
use Rattle.std.proofs.lemmas.Option.{slice_get_within}
use Rattle.ts_check.specs.Waiting.{LacksPiece}
use Rattle.ts_check.proofs.Answered.{first_wrong}
use Rattle.ts_check.proofs.waiting.first_without_piece.Goals as goal

pub returns : goal.returns
returns g c = first_wrong _ (LacksPiece c.args.plan.now) (λ p b h. h) _
    (λ k lacks. let h = slice_get_within c.args.plan.now.actions k lacks.5.0 lacks.5.1 in let e = ap length c.as_slice-count.ensures in omega arith) c.first_where.result c.first_where.ensures
