-- The plans of the cases, and what a pass does in them.
--     worked p           a piece of one byte, the commit of its file, and the mark; p is the path of the file
--     removal            the commit of a file that is deleted, and its mark
--     nested p q         the mark of a new directory, and what worked has for each of two files in it, whose paths are p and q
--     act_steps i w      what a pass does to carry an action out
--     put_steps c k w    what it does to carry out a commit of one piece
--     HasFile plan b     actions b, b + 1 and b + 2 are the one piece of a file, of one byte, its commit and its mark
--     HasDirectory plan  action 0 is the mark of a new directory, for which actions 3 and 6 wait
--     IsTask plan t      the plan has the actions of this task
use Rattle.std.specs.Prelude.{◌≡◌, ◌<◌, ◌+◌, ℕ, List, [], ◌∷◌, length}
use Rattle.ts_name.specs.Paths.{Path}
use Rattle.ts_model.specs.Plans.{KindIs, Waits}
use Rattle.ts_model.specs.Runs.{Run, IsPieceOf}
use Rattle.ts_model.specs.declared.plan.Action.{Action}
use Rattle.ts_model.specs.declared.plan.Kind.TheVariants.{Piece, Commit, Mark}
use Rattle.ts_model.specs.declared.plan.Plan.{Plan}
use Rattle.ts_model.specs.declared.step.Step.TheVariants.{Claim, Act, Done, Take}
use Rattle.ts_model.specs.declared.step.Work.{Work}
use Rattle.cases.specs.declared.board.task.Task.{Task}
use Rattle.cases.specs.declared.board.task.Task.TheVariants as task

unfoldable pub worked : Path → List Action
worked p = record { kind = Piece 0 0 1 p; preds = [] } ∷ record { kind = Commit 0; preds = 0 ∷ [] } ∷ record { kind = Mark 0; preds = 1 ∷ [] } ∷ []

unfoldable pub removal : List Action
removal = record { kind = Commit 0; preds = [] } ∷ record { kind = Mark 0; preds = 0 ∷ [] } ∷ []

unfoldable pub nested : Path → Path → List Action
nested p q =
    record { kind = Mark 0; preds = [] }
    ∷ record { kind = Piece 1 0 1 p; preds = [] } ∷ record { kind = Commit 1; preds = 1 ∷ [] } ∷ record { kind = Mark 1; preds = 0 ∷ 2 ∷ [] }
    ∷ record { kind = Piece 2 0 1 q; preds = [] } ∷ record { kind = Commit 2; preds = 4 ∷ [] } ∷ record { kind = Mark 2; preds = 0 ∷ 5 ∷ [] } ∷ []

abbrev pub IsNested : List Action → Type 0
IsNested actions = (p q : Path) × (actions ≡ nested p q)

abbrev pub IsWorked : List Action → Type 0
IsWorked actions = (p : Path) × (actions ≡ worked p)

abbrev pub act_steps : ℕ → Work → Run
act_steps i w = Claim i ∷ Act i w ∷ Done i ∷ []

abbrev pub put_steps : ℕ → ℕ → Work → Run
put_steps c k w = Claim c ∷ Take c k ∷ Act c w ∷ Done c ∷ []

pub record HasFile (plan : Plan) (b : ℕ) : Type 0 where
  pub entry : ℕ
  pub path : Path
  pub piece : KindIs plan b (Piece entry 0 1 path)
  pub commit : KindIs plan (b + 1) (Commit entry)
  pub mark : KindIs plan (b + 2) (Mark entry)
  pub only : (k : ℕ) → IsPieceOf plan (b + 1) k → k ≡ b
  pub commit_waits : Waits plan (b + 1) b
  pub mark_waits : Waits plan (b + 2) (b + 1)

-- the commit of a file that is deleted
pub record HasRemoval (plan : Plan) : Type 0 where
  pub commit : KindIs plan 0 (Commit 0)
  pub none : (k : ℕ) → ¬ IsPieceOf plan 0 k
  pub mark_waits : Waits plan 1 0

pub record HasDirectory (plan : Plan) : Type 0 where
  pub mark : (e : ℕ) × KindIs plan 0 (Mark e)
  pub first_waits : Waits plan 3 0
  pub second_waits : Waits plan 6 0

abbrev pub IsTask : Plan → Task → Type 0
IsTask plan task.Removal = HasRemoval plan × (1 < length plan.actions)
IsTask plan task.Directory = HasDirectory plan × (6 < length plan.actions)
IsTask plan (task.Piece b) = HasFile plan b × (b + 2 < length plan.actions) × (b < 100)
IsTask plan (task.Commit b) = HasFile plan b × (b + 2 < length plan.actions) × (b < 100)
IsTask plan (task.Mark b) = HasFile plan b × (b + 2 < length plan.actions) × (b < 100)
