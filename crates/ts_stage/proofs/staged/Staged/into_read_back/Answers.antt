use Rattle.std.proofs.Common.{sym, subst}
use Rattle.ts_model.specs.Trees.{IsSubListing}
use Rattle.ts_stage.proofs.Telling.{IsSubListing-of_stamps}
use Rattle.ts_stage.proofs.staged.Staged.into_read_back.Goals as goal

pub invariant_of-result : goal.invariant_of-result
invariant_of-result c = IsSubListing-of_stamps _ (subst IsSubListing (sym (c.settle_all.ensures.fits c.if-settle_all.true)) (rw c.rows.ensures.rows c.rows.ensures.listing))
