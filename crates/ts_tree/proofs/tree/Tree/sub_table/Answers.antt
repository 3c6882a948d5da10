use Rattle.ts_tree.proofs.Parts.{part_fits, part_paths}
use Rattle.ts_tree.proofs.tree.Tree.sub_table.Goals as goal

pub returns-clause-part : goal.returns-clause-part
returns-clause-part c = rw (← c.self.view_is) c.in_ok-part.ensures.part

pub returns-clause-files : goal.returns-clause-files
returns-clause-files c =
    part_fits c.self.inside.table c.in_ok-part.part c.args.path.now c.self.invariant c.rows-part_rows.ensures.listing c.in_ok-part.ensures.part

pub returns-clause-paths : goal.returns-clause-paths
returns-clause-paths c =
    part_paths c.self.inside.table c.in_ok-part.part c.args.path.now c.self.invariant.listing c.rows-part_rows.ensures.listing c.in_ok-part.ensures.part
