use Rattle.ts_table.proofs.Found.{above_test}
use Rattle.ts_table.proofs.splice.is_below.Goals as goal

pub returns : goal.returns
returns g c = above_test c.is_prefix.result c.args.path.now c.args.row.now.path c.is_prefix.ensures
