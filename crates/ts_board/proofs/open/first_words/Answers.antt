use Rattle.std.proofs.Common.{List, true, false, ◌≡◌, ◌==◌, ◌++◌, ◌∷◌, ◌∙◌, sym, ap, length, subst, [], arith}
use Rattle.std.proofs.lemmas.List.{take_all}
use Rattle.ts_model.specs.declared.plan.Action.{Action}
use Rattle.ts_board.specs.Terms.{opening_words}
use Rattle.ts_board.proofs.Passes.{first_none, first_some}
use Rattle.ts_board.proofs.open.first_words.Goals as goal

pub returns : goal.returns
returns c =
    let actions = c.args.plan.now.actions in
    let long = ap length c.as_slice-actions.ensures in
    c.loop-action.invariant ∙ ap opening_words (take_all c.loop-action.action-index actions (omega (arith, long, c.loop-action-test.false)))
    ∙ sym (first_some actions (subst (λ (l : List Action). false ≡ (length l == 0)) c.as_slice-actions.ensures c.if-is_empty.ensures))

pub returns-then-is_empty : goal.returns-then-is_empty
returns-then-is_empty c =
    c.in_ok-push.ensures.items ∙ ap (λ l. l ++ 0 ∷ []) c.in_ok-words.ensures.items
    ∙ sym (first_none c.args.plan.now.actions (subst (λ (l : List Action). true ≡ (length l == 0)) c.as_slice-actions.ensures c.if-is_empty.ensures))
