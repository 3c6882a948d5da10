use Rattle.std.proofs.Common.{◌≡◌, ℕ, List, ◌<◌, length, sym, ap, ◌∙◌, subst, arith}
use Rattle.std.specs.Prelude.{slice_index_or}
use Rattle.ts_board.specs.declared.law.Slot.TheVariants.{Empty}
use Rattle.ts_model.specs.declared.plan.Plan.{Plan}
use Rattle.ts_board.specs.declared.law.Key.{Key}
use Rattle.ts_board.specs.Terms.{work_in, IsTold, AreSited, terms_with}
use Rattle.ts_board.proofs.Passes.{opens_any, first_positive, first_wide, told_start, blank_start}
use Rattle.ts_board.proofs.open.open_slots.Goals as goal

pub new-requires : goal.new-requires
new-requires g c =
    let content = g.S.Site.content in let xs = c.args.slots.items in let plan = c.args.plan.now in
    let t = terms_with content plan c.args.first.now c.args.second.now xs in
    let each = c.requires.each in
    rw c.of.ensures (rw c.of-2.ensures (rw c.of-3.ensures (rw c.of-4.ensures (opens_any work_in (IsTold content) t c.args.words.now xs c.requires.orderly (λ i h. blank_start (slice_index_or xs i Empty) (c.requires.untouched i)) (told_start content xs c.requires.untouched) (omega arith) c.requires.words))))

pub invariant_of-result : goal.invariant_of-result
invariant_of-result g c =
    let actions = c.args.plan.now.actions in
    let ok = c.in-Ok.ensures.ok in
    let wide = (first_wide actions c.args.words.now c.requires.words).0 in
    let named : length c.in-Ok.table.shared.key.plan.value.actions ≡ length c.args.plan.now.actions = ap (λ (k : Key g.row.S.Denot). length k.plan.value.actions) ok.5 ∙ ap (λ (p : Plan). length p.actions) c.of.ensures in
    let some : 0 < length c.args.words.now = subst (λ (l : List ℕ). 0 < length l) (sym c.requires.words) (first_positive actions) in
    let each = c.requires.each in
    record {
      wide = omega arith;
      some_word = omega arith;
      deep = omega arith;
      sited = subst (λ (k : Key g.row.S.Denot). AreSited k.plan.value k.slots.value.items) (sym ok.5) (rw c.of.ensures (rw c.of-4.ensures c.requires.sited));
    }
