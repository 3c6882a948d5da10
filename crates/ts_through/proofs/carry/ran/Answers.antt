use Rattle.std.proofs.Common.{◌≡◌, ◌<◌, ℕ, List, Some, length, slice_get, refl, ap, ◌∙◌, subst, sym}
use Rattle.std.specs.Mem.Slots.{slots_items}
use Rattle.ts_board.specs.Terms.{placed}
use Rattle.ts_model.specs.Trees.{at, print_of}
use Rattle.ts_exec.specs.Outcomes.{OnlyMemoryRanOut}
use Rattle.ts_exec.specs.declared.outcome.ActionResult.{ActionResult}
use Rattle.ts_exec.specs.declared.outcome.ActionResult.TheVariants.{Done}
use Rattle.ts_through.specs.Parts.{AreBlockedByEarlier, AreHeld, NoneIsLeft}
use Rattle.ts_through.proofs.Done.{blocked_by_earlier, none_left, words_done}
use Rattle.ts_through.proofs.Held.{held}
use Rattle.ts_through.proofs.Steady.{steady}
use Rattle.ts_through.proofs.carry.ran.Goals as goal

pub all_done-requires-clause-memory : goal.all_done-requires-clause-memory
all_done-requires-clause-memory g c =
    let k = c.args.checked.now in let opening = placed k.plan.actions c.args.sites.items in
    let targets : AreHeld k.plan c.in_ok-second.second c.in_ok-first.first opening =
    subst (λ z. AreHeld k.plan z c.in_ok-first.first opening) (sym c.in_ok-second.ensures)
    (subst (λ z. AreHeld k.plan c.args.second.now z opening) (sym c.in_ok-first.ensures) c.requires.targets) in
    subst OnlyMemoryRanOut (sym c.results.ensures)
    (c.in-Ok.ensures.steady (steady k c.in_ok-first.first c.in_ok-second.second
    (c.requires.first ∙ ap (λ z. print_of (at z)) (sym c.in_ok-first.ensures)) (c.requires.second ∙ ap (λ z. print_of (at z)) (sym c.in_ok-second.ensures)) opening targets c.plan-plan.ensures.valid))

pub all_done-requires-clause-blocked : goal.all_done-requires-clause-blocked
all_done-requires-clause-blocked g c = subst AreBlockedByEarlier (sym c.results.ensures) (blocked_by_earlier c.in-Ok.ensures.outcome c.plan-plan.ensures.valid)

pub all_done-requires-clause-left : goal.all_done-requires-clause-left
all_done-requires-clause-left g c = subst NoneIsLeft (sym c.results.ensures) (none_left c.in-Ok.ensures.outcome (λ stops. stops))

pub returns-in-Ok-clause-done : goal.returns-in-Ok-clause-done
returns-in-Ok-clause-done g c =
    let all = subst (λ (results : List ActionResult). (i : ℕ) → i < length results → slice_get results i ≡ Some Done) c.results.ensures c.in_ok-all_done-in-Ok.ensures.done in
    words_done c.args.checked.now c.in-Ok.ensures.outcome (refl, refl, refl) c.plan-plan.ensures.valid all

pub returns-in-Ok-clause-held : goal.returns-in-Ok-clause-held
returns-in-Ok-clause-held g c =
    let all = subst (λ (results : List ActionResult). (i : ℕ) → i < length results → slice_get results i ≡ Some Done) c.results.ensures c.in_ok-all_done-in-Ok.ensures.done in
    let k = c.args.checked.now in let slots = slots_items c.in-Ok.outcome.closed.row.slots in
    subst (λ z. AreHeld k.plan c.args.first.now z slots) c.in_ok-second.ensures
    (subst (λ z. AreHeld k.plan z c.in_ok-second.second slots) c.in_ok-first.ensures
    (held k c.plan-plan.ensures.valid (λ _. 0) (λ _ _ _ _. ⊥) c.in_ok-first.first c.in_ok-second.second
    (c.requires.first ∙ ap (λ z. print_of (at z)) (sym c.in_ok-first.ensures)) (c.requires.second ∙ ap (λ z. print_of (at z)) (sym c.in_ok-second.ensures))
    (placed k.plan.actions c.args.sites.items) slots (slots_items c.in-Ok.outcome.closed.row.words) c.in-Ok.outcome.results.items c.in-Ok.ensures.outcome all))
