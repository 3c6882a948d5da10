use Rattle.ts_tree.proofs.Parts.{part_paths}
use Rattle.ts_print.proofs.print.Print.sub_table.Goals as goal

pub returns-clause-part : goal.returns-clause-part
returns-clause-part c = rw (← c.self.view_is) c.in_ok-part.ensures.part

pub returns-clause-paths : goal.returns-clause-paths
returns-clause-paths c =
    part_paths c.self.inside.table c.in_ok-part.part c.args.path.now c.rows-rows.ensures.listing c.rows-part_rows.ensures.listing c.in_ok-part.ensures.part
