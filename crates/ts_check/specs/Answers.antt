-- What is kept of a plan that was checked.
--     IsKept s plan commits pieces successors    the plan is valid, and each answer about its actions lies ready
use Rattle.std.specs.Prelude.{ℕ, List, length}
use Rattle.ts_model.specs.Plans.{Valid}
use Rattle.ts_model.specs.Sync.{Snapshot}
use Rattle.ts_model.specs.declared.plan.Kind.TheVariants.{Commit}
use Rattle.ts_model.specs.declared.plan.Plan.{Plan}
use Rattle.ts_check.specs.Pieces.{AreAllPieces}
use Rattle.ts_check.specs.Places.{IsIndex}
use Rattle.ts_check.specs.Waiting.{AreAllSuccessors}

pub record IsKept (s : Snapshot) (plan : Plan) (commits : List ℕ) (pieces successors : List (List ℕ)) : Type 0 where
  pub valid : Valid s plan
  -- the commit of each entry
  pub commits_are : IsIndex plan Commit (length plan.actions) commits
  -- the pieces of each entry, and the successors of each action
  pub pieces_are : AreAllPieces plan pieces
  pub successors_are : AreAllSuccessors plan successors
