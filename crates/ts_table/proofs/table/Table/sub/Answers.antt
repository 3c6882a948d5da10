use Rattle.ts_table.proofs.Found.{between_bounds}
use Rattle.ts_table.proofs.table.Table.sub.Goals as goal

pub returns-clause-rows : goal.returns-clause-rows
returns-clause-rows g c =
    rw (← c.self.view_is, c.deref-2.ensures.value)
    (between_bounds c.self.inside.rows.items c.args.path.now _ _ c.bounds-start.ensures.order (rw c.deref.ensures.value at c.bounds-start.ensures.cut))
