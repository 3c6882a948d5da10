use Rattle.std.proofs.Common.{ℕ, sym, subst}
use Rattle.ts_model.specs.Plans.{KindIs}
use Rattle.ts_model.specs.Runs.{IsPieceOf}
use Rattle.ts_model.specs.declared.plan.Kind.TheVariants.{Commit}
use Rattle.ts_model.specs.declared.plan.Plan.{Plan}
use Rattle.cases.proofs.board.desk.Desk.remove.Goals as goal

pub put-ended-requires-clause-commit : goal.put-ended-requires-clause-commit
put-ended-requires-clause-commit g c κs within =
    (0, subst (λ (n : ℕ). KindIs c.args.self.now.checked.now.plan n (Commit 0)) (sym c.in_ok-held.ensures.won.0) c.requires.file.commit)

pub put-ended-requires-clause-taken : goal.put-ended-requires-clause-taken
put-ended-requires-clause-taken g c κs within k piece =
    absurd (c.requires.file.none k (subst (λ (n : ℕ). IsPieceOf c.args.self.now.checked.now.plan n k) c.in_ok-held.ensures.won.0 piece))

pub put-ended-requires-clause-place : goal.put-ended-requires-clause-place
put-ended-requires-clause-place g c κs within =
    c.in_ok-held.ensures.site.0 0 (subst (λ (z : Plan). KindIs z 0 (Commit 0)) (sym c.args.self.now.plan) c.requires.file.commit)
