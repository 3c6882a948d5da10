use Rattle.std.proofs.Common.{subst}
use Rattle.ts_folder.specs.Folders.{InOrder}
use Rattle.ts_scan.proofs.Parts.{order_left, order_right}
use Rattle.ts_scan.proofs.walk.parts.Goals as goal

pub returns-clause-first : goal.returns-clause-first
returns-clause-first c = order_left c.split_at.result.0.now c.split_at.result.1.now (subst InOrder c.split_at.ensures.by_index.0 c.requires.order)

pub returns-clause-second : goal.returns-clause-second
returns-clause-second c = order_right c.split_at.result.0.now c.split_at.result.1.now (subst InOrder c.split_at.ensures.by_index.0 c.requires.order)
