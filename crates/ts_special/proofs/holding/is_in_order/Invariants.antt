use Rattle.std.proofs.Common.{take}
use Rattle.ts_folder.specs.Folders.{InOrder}
use Rattle.ts_special.proofs.holding.is_in_order.Given as goal

-- the names so far are in order
abbrev pub invariant-loop-index : goal.invariant-loop-index
invariant-loop-index l = InOrder (take l.index l.names)
