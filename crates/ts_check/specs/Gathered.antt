-- What is found of a plan's actions.
--     IsGathered plan gathered    what is found of them without a look at the prints
--     IsLooked xs ys plan looked  the same, and what is found of them in the prints
--     IsIndexed plan index        the same, where each entry that wants a commit or a mark has one, and the pieces of each entry
use Rattle.std.specs.Prelude.{length, IfErr, IfOk, Some}
use Rattle.ts_model.specs.declared.plan.Plan.{Plan}
use Rattle.ts_model.specs.Trees.{Listing}
use Rattle.ts_model.specs.declared.row.Stamp.{Stamp}
use Rattle.ts_check.specs.Pieces.{AreAllPieces, IsListOfAll, IsUnlawful, NotEachOnce}
use Rattle.ts_check.specs.Places.{IsFirst, IsIndex, Never, IsWholeIndex, NotOneOf, kind_of}
use Rattle.ts_check.specs.Waiting.{AreAllSuccessors}
use Rattle.ts_check.specs.declared.census.Role.TheVariants.{Commits, Marks}
use Rattle.ts_check.specs.declared.rules.Gathered.{Gathered}
use Rattle.ts_check.specs.declared.rules.Index.{Index}
use Rattle.ts_check.specs.declared.rules.Looked.{Looked}

pub record IsGathered (plan : Plan) (gathered : Gathered) : Type 0 where
  pub commits_are : IfOk gathered.commits (λ numbers. IsWholeIndex plan Commits numbers.items)
  pub wrong_commit : IfErr gathered.commits (λ place. IsFirst (NotOneOf plan Commits) (Some place))
  pub marks_are : IfOk gathered.marks (λ numbers. IsWholeIndex plan Marks numbers.items)
  pub wrong_mark : IfErr gathered.marks (λ place. IsFirst (NotOneOf plan Marks) (Some place))
  pub successors_are : AreAllSuccessors plan gathered.successors

pub record IsLooked (xs ys : Listing Stamp) (plan : Plan) (looked : Looked) : Type 0 where
  pub unlawful : IfErr looked.pieces (λ place. IsFirst (IsUnlawful xs ys plan) (Some place))
  pub lawful : IfOk looked.pieces (λ once. Never (IsUnlawful xs ys plan))
  pub staged : IfOk looked.pieces (λ once. IfOk once (λ staged. IsListOfAll xs ys plan staged.items))
  pub again : IfOk looked.pieces (λ once. IfErr once (λ place. IsFirst (NotEachOnce xs ys plan) (Some place)))
  pub gathered : IsGathered plan looked.actions

pub record IsIndexed (plan : Plan) (index : Index) : Type 0 where
  pub commits_are : IsIndex plan (kind_of Commits) (length plan.actions) index.commits.items
  pub marks_are : IsIndex plan (kind_of Marks) (length plan.actions) index.marks.items
  pub pieces_are : AreAllPieces plan index.pieces
  pub successors_are : AreAllSuccessors plan index.successors
