use Rattle.std.proofs.Common.{sym, subst}
use Rattle.ts_model.specs.Trees.{IsSubListing}
use Rattle.ts_stage.proofs.Telling.{IsSubListing-told}
use Rattle.ts_stage.proofs.staged.Staged.into_tree.Goals as goal

pub from_rows-requires : goal.from_rows-requires
from_rows-requires c = subst IsSubListing (sym c.in_ok-rows.ensures.rows) (IsSubListing-told _ c.self.invariant)
