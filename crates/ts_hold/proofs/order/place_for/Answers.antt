use Rattle.ts_hold.proofs.Orders.{there_names}
use Rattle.ts_hold.proofs.order.place_for.Goals as goal

pub returns-in-Ok : goal.returns-in-Ok
returns-in-Ok c = rw c.in-OnePath.is (c.in-Ok.field-0, c.in-Ok.ensures.within, there_names _ _ _ _ c.in-Ok.ensures)
