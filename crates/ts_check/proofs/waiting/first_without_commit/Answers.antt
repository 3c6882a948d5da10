use Rattle.std.proofs.Common.{ap, length, arith}
use Rattle.std.proofs.lemmas.Option.{slice_get_within}
use Rattle.ts_check.specs.Waiting.{LacksLink}
use Rattle.ts_check.proofs.Answered.{first_wrong}
use Rattle.ts_check.proofs.Links.{IsFirst-LacksCommit}
use Rattle.ts_check.proofs.waiting.first_without_commit.Goals as goal

pub returns : goal.returns
returns g c = IsFirst-LacksCommit c.args.plan.now c.args.commits.now c.requires.few c.requires.index c.first_where.result
    (first_wrong _ (LacksLink c.args.plan.now c.args.commits.now) (λ p b h. h) _
    (λ k lacks. let h = slice_get_within c.args.plan.now.actions k lacks.2.0 lacks.2.1 in let e = ap length c.as_slice-count.ensures in omega arith) c.first_where.result c.first_where.ensures)
