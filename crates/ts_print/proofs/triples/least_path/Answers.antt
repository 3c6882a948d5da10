use Rattle.ts_print.proofs.Rows.{least_path}
use Rattle.ts_print.proofs.triples.least_path.Goals as goal

pub returns : goal.returns
returns c = least_path c.earlier.result c.earlier-2.result c.earlier-3.result _ _ _ c.earlier.ensures c.earlier-2.ensures c.earlier-3.ensures
