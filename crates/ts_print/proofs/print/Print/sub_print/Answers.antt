use Rattle.ts_table.proofs.Relative.{part_of}
use Rattle.ts_print.proofs.print.Print.sub_print.Goals as goal

pub returns-clause-part : goal.returns-clause-part
returns-clause-part c = (part_of c.args.self.now c.args.path.now c.rows-rows.ensures.listing).tree
