use Rattle.std.proofs.Common.{◌≤◌, ◌++◌, ◌∷◌, [], not, length, sum_by, refl, sym, ap, ◌∙◌, arith}
use Rattle.ts_model.specs.declared.plan.Action.{Action}
use Rattle.ts_plan.specs.Progress.{all_actions}
use Rattle.ts_plan.specs.Readers.{progress}
use Rattle.ts_plan.proofs.Steps.{some_open, past_pred, pred_progress}
use Rattle.ts_plan.proofs.text.PlanReader.take_pred.Goals as goal

pub returns-then-self-ge-PRED_LIMIT : goal.returns-then-self-ge-PRED_LIMIT
returns-then-self-ge-PRED_LIMIT c =
    let opened = some_open c.self.inside.last (c.is_none.ensures ∙ ap not c.if-is_none.false) in
    let count = c.self.invariant.1 ∙ ap (λ v. sum_by (λ (a : Action). length a.preds) (all_actions v)) c.self.view_is in
    let full : 4194304 ≤ sum_by (λ a. length a.preds) (all_actions c.args.self.now) = omega (arith, sym count, c.if-self-ge-PRED_LIMIT.true) in
    (refl, past_pred c.args.self.now opened.0 c.args.number c.requires.body (sym (ap (λ v. v.last) c.self.view_is) ∙ opened.1) full)

pub invariant_of-self-in-Some : goal.invariant_of-self-in-Some
invariant_of-self-in-Some c =
    let taken = c.in-Some.action in
    let last = sym c.take.ensures.value ∙ c.in-Some.is in
    let body = ap (λ v. v.part) c.self.view_is ∙ c.requires.body in
    rw c.in_ok-pushed-in-Some.ensures.ok (pred_progress (progress c.self.inside) taken (taken.preds ++ c.args.number ∷ []) c.args.number c.self.inside.pred_count
    c.self.invariant.0 body last refl (omega arith) c.self.invariant.1 (omega (arith, c.if-self-ge-PRED_LIMIT.false)))
