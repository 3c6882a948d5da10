use Rattle.ts_check.proofs.Answered.{first_answer}
use Rattle.ts_check.proofs.finding.first_where.Goals as goal

pub returns : goal.returns
returns g c = let f = c.find_first.ensures in first_answer _ c.args.count _ _ f.0 f.1 c.find_first.result c.into_par_iter.ensures f.2 f.3 f.4
