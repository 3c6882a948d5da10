use Rattle.ts_table.proofs.Relative.{part_of}
use Rattle.ts_print.proofs.Lent.{lent_each, lent_order}
use Rattle.ts_print.proofs.sub_print.SubPrint.rows.Goals as goal

pub returns-clause-order : goal.returns-clause-order
returns-clause-order c = lent_order c.self.inside.top.now c.self.inside.print.now c.sub.result.now c.rows-rows.ensures.listing c.sub.ensures

pub returns-clause-each : goal.returns-clause-each
returns-clause-each c = rw (← c.self.view_is) (lent_each c.self.inside.top.now c.self.inside.print.now c.sub.result.now c.rows-rows.ensures.listing c.sub.ensures)

pub returns-clause-lawful : goal.returns-clause-lawful
returns-clause-lawful c = rw (← c.self.view_is) (part_of c.self.inside.print.now c.self.inside.top.now c.rows-rows.ensures.listing).listing
