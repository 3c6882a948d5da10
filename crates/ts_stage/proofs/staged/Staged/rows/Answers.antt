use Rattle.std.proofs.Common.{subst}
use Rattle.ts_model.specs.Trees.{IsSubListing}
use Rattle.ts_stage.specs.Assemblies.{Assembly}
use Rattle.ts_stage.proofs.Telling.{IsSubListing-told}
use Rattle.ts_stage.proofs.staged.Staged.rows.Goals as goal

pub returns-clause-listing : goal.returns-clause-listing
returns-clause-listing c = subst (λ (a : Assembly). IsSubListing a.made) c.self.view_is (IsSubListing-told c.self.inside.made.items c.self.invariant)
