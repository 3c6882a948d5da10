use Rattle.std.proofs.Common.{sym, subst}
use Rattle.ts_model.specs.Trees.{IsSubListing}
use Rattle.ts_stage.proofs.Assembling.{IsSubListing-begun}
use Rattle.ts_stage.proofs.Telling.{IsSubListing-of_told}
use Rattle.ts_stage.proofs.staged.Staged.begin.Goals as goal

pub invariant_of-result : goal.invariant_of-result
invariant_of-result c = IsSubListing-of_told _ (subst IsSubListing (sym c.in_ok-made.ensures.rows) (IsSubListing-begun _ (rw c.rows.ensures.rows c.rows.ensures.listing)))
