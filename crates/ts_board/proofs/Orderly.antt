-- A valid plan is orderly.
use Rattle.std.proofs.Common.{◌≡◌, ℕ, sym, subst, ap}
use Rattle.ts_model.specs.Sync.{Snapshot}
use Rattle.ts_model.specs.Plans.{KindIs, Valid}
use Rattle.ts_model.specs.Runs.{IsPieceOf}
use Rattle.ts_model.specs.declared.plan.Plan.{Plan}
use Rattle.ts_model.specs.declared.plan.Kind.{Kind}
use Rattle.ts_model.specs.declared.plan.Kind.TheVariants.{Piece, Commit}
use Rattle.ts_model.specs.declared.plan.PlanRule.TheVariants.{PiecesFirst}
use Rattle.ts_laws.proofs.Basics.{stable}
use Rattle.ts_laws.proofs.Runs.{preds_ascend}
use Rattle.ts_laws.proofs.Steps.{same_kind}
use Rattle.ts_laws.proofs.Plans as plans
use Rattle.ts_laws.proofs.Plans.{decide_waits}
use Rattle.ts_board.specs.Terms.{IsOrderly}

abbrev pub entry_of : Kind → ℕ
entry_of (Piece e offset size p) = e
entry_of _ = 0

pub orderly : (s : Snapshot) (plan : Plan) → Valid s plan → IsOrderly plan
orderly s plan valid = record {
  ascending = λ i action is. preds_ascend s plan valid i action is;
  one_commit = λ c d k x y. one c d k x y;
  waits = λ c k x. stable (decide_waits plan c k) (λ n. valid PiecesFirst c (x.entry, k, x.offset, x.size, x.path, x.commit, x.piece, n));
}
  where
    one : (c d k : ℕ) → IsPieceOf plan c k → IsPieceOf plan d k → c ≡ d
    one c d k x y =
        let same : x.entry ≡ y.entry = ap entry_of (same_kind plan k (Piece x.entry x.offset x.size x.path) (Piece y.entry y.offset y.size y.path) x.piece y.piece) in
        plans.one_commit s plan valid c d x.entry x.commit (subst (λ (e : ℕ). KindIs plan d (Commit e)) (sym same) y.commit)
