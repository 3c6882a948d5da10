use Rattle.std.proofs.Common.{List, ◌≡◌, ◌++◌, length, sym, ap, ◌∙◌, subst, arith}
use Rattle.std.specs.Prelude.{slice_index_or}
use Rattle.ts_check.specs.Checkup.{snapshot_of}
use Rattle.ts_model.specs.declared.plan.Plan.{Plan}
use Rattle.ts_board.specs.declared.law.Slot.{Slot}
use Rattle.ts_board.specs.declared.law.Slot.TheVariants.{Empty}
use Rattle.ts_board.specs.Terms.{first_words, sites_in, AreSited, IsOrderly, IsUntouched}
use Rattle.ts_board.proofs.Orderly.{orderly}
use Rattle.ts_board.proofs.Sites.{placed_long, placed_sited, placed_untouched, sites_back}
use Rattle.ts_board.proofs.open.Opening.open.Goals as goal

pub open_slots-requires-clause-words : goal.open_slots-requires-clause-words
open_slots-requires-clause-words g c κs within =
    let same = c.requires.words ∙ sym c.plan-plan.ensures.plan in
    subst (λ (p : Plan). c.as_slice.result.now ≡ first_words p.actions) same (c.as_slice.ensures.value ∙ c.args.words.counted)

pub open_slots-requires-clause-orderly : goal.open_slots-requires-clause-orderly
open_slots-requires-clause-orderly g c κs within = subst IsOrderly (sym c.plan-plan.ensures.plan) (orderly (snapshot_of c.args.checked.now) c.args.checked.now.plan c.plan-plan.ensures.valid)

pub open_slots-requires-clause-each : goal.open_slots-requires-clause-each
open_slots-requires-clause-each g c κs within =
    let it = c.args.self in let same = c.requires.plan ∙ sym c.plan-plan.ensures.plan in
    ap length it.placed ∙ placed_long it.plan.value.actions it.sites.value.items ∙ ap (λ (p : Plan). length p.actions) same

pub open_slots-requires-clause-sited : goal.open_slots-requires-clause-sited
open_slots-requires-clause-sited g c κs within =
    let it = c.args.self in let same = c.requires.plan ∙ sym c.plan-plan.ensures.plan in
    subst (λ (p : Plan). AreSited p it.slots.items) same (subst (AreSited it.plan.value) (sym it.placed) (placed_sited it.plan.value it.sites.value.items it.sited))

pub open_slots-requires-clause-untouched : goal.open_slots-requires-clause-untouched
open_slots-requires-clause-untouched g c κs within =
    let it = c.args.self in
    λ i. subst (λ (l : List (Slot g.row.S.Denot)). IsUntouched (slice_index_or l i Empty)) (sym it.placed) (placed_untouched it.plan.value.actions it.sites.value.items i)

pub sites_from-requires : goal.sites_from-requires
sites_from-requires g c =
    let it = c.args.self in
    let same = ap (λ (l : List (Slot g.row.S.Denot)). length (sites_in l)) (c.in-Err.ensures.err ∙ it.placed) ∙ ap length (sites_back it.plan.value.actions it.sites.value.items it.sited) in
    let none = ap length it.room.0 in let room = it.room.1 in omega (arith, same, none, room)

pub returns-clause-back : goal.returns-clause-back
returns-clause-back g c =
    let it = c.args.self in
    let same = ap sites_in (c.in-Err.ensures.err ∙ it.placed) ∙ sites_back it.plan.value.actions it.sites.value.items it.sited in
    c.sites_from.ensures ∙ (λ k. it.room.0 k ++ same k)
