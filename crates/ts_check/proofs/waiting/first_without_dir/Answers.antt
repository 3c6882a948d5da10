use Rattle.std.proofs.Common.{ap, length, arith}
use Rattle.std.proofs.lemmas.Option.{slice_get_within}
use Rattle.ts_check.specs.Waiting.{LacksVia}
use Rattle.ts_check.proofs.Answered.{first_wrong}
use Rattle.ts_check.proofs.Links.{IsFirst-LacksDir}
use Rattle.ts_check.proofs.waiting.first_without_dir.Goals as goal

pub returns : goal.returns
returns g c = IsFirst-LacksDir c.args.plan.now c.requires.order c.requires.entries c.args.nearest.now c.args.marks.now c.requires.actions c.requires.dirs.0 c.requires.dirs.1 c.requires.index c.first_where.result
    (first_wrong _ (LacksVia c.args.plan.now c.args.nearest.now c.args.marks.now) (λ p b h. h) _
    (λ k lacks. let h = slice_get_within c.args.plan.now.actions k lacks.1.0 lacks.1.1 in let e = ap length c.as_slice-count.ensures in omega arith) c.first_where.result c.first_where.ensures)
