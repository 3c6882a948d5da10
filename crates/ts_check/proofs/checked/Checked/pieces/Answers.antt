use Rattle.std.proofs.Common.{ℕ, ◌↔◌, [], Contains, ap, subst}
use Rattle.ts_model.specs.Runs.{IsPieceOf}
use Rattle.ts_model.specs.declared.plan.Plan.{Plan}
use Rattle.ts_check.specs.Checkup.{Checkup}
use Rattle.ts_check.proofs.PieceLists.{pieces_of_commit}
use Rattle.ts_check.proofs.Succeeding.{contains_none}
use Rattle.ts_check.proofs.checked.Checked.pieces.Goals as goal

pub returns-in-Some-clause-pieces : goal.returns-in-Some-clause-pieces
returns-in-Some-clause-pieces c =
    subst (λ (p : Plan). (k : ℕ) → Contains c.list.result.now k ↔ IsPieceOf p c.args.c k) (ap (λ (k : Checkup). k.plan) c.self.view_is)
    (pieces_of_commit c.self.inside.plan.now c.self.inside.pieces c.args.c c.in-Some.e c.list.result.now c.self.invariant.pieces_are c.in-Some.ensures.some c.list.ensures).0

pub returns-in-None-clause-pieces : goal.returns-in-None-clause-pieces
returns-in-None-clause-pieces c =
    subst (λ (p : Plan). (k : ℕ) → Contains {X = ℕ} [] k ↔ IsPieceOf p c.args.c k) (ap (λ (k : Checkup). k.plan) c.self.view_is)
    (λ k. (λ h. absurd (contains_none k h), λ h. absurd (c.in-None.ensures.none h.entry h.commit)))
