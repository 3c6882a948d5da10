use Rattle.std.proofs.Common.{◌≡◌, ◌+◌, Some, length, refl, set, slice_get, sym, ap, ◌∙◌, subst, arith, rules}
use Rattle.ts_model.specs.Packed.{kind_lent}
use Rattle.ts_model.proofs.Lent.{lent_no_commit}
use Rattle.std.specs.Prelude.{slice_index_or}
use Rattle.std.specs.Mem.Slots.{slots_items}
use Rattle.std.proofs.lemmas.Option.{none-some, slice_get-get_or}
use Rattle.ts_board.specs.Terms.{site_in}
use Rattle.ts_board.specs.declared.law.Slot.TheVariants.{Empty}
use Rattle.ts_check.specs.Checkup.{snapshot_of}
use Rattle.ts_laws.proofs.Steps.{same_kind}
use Rattle.ts_model.specs.Plans.{KindIs}
use Rattle.ts_model.specs.declared.plan.Kind.{Kind}
use Rattle.ts_model.specs.declared.plan.Kind.TheVariants.{Commit}
use Rattle.ts_through.proofs.Taking.{AreTakenBelow, later_kept, taken_all, taken_here, taken_past}
use Rattle.ts_through.proofs.put.take_parts.Goals as goal
use Rattle.ts_through.proofs.put.take_parts.Goals.{in-Commit+in-Some, in-Commit+in_default-take_site, in_default}

pub index_mut-requires : goal.index_mut-requires
index_mut-requires c =
    let items = c.as_slice-actions.result.now in let n = c.loop-index.index in let action = c.index-actions-index.result in
    let at : slice_get items n ≡ Some action = slice_get-get_or items n action c.loop-index-test.true ∙ ap Some (sym c.index-actions-index.is) in
    let there : slice_get c.args.checked.now.plan.actions n ≡ Some action = subst (λ xs. slice_get xs n ≡ Some action) c.loop-index.invariant.same at in
    let kind : action.kind ≡ Commit c.in-Commit.entry = sym c.kind.ensures ∙ ap kind_lent c.in-Commit.is in
    let within = c.requires.within n c.in-Commit.entry (action, there, kind) in let count = c.loop-index.invariant.count in omega arith

pub loop-index-preserved : goal.loop-index-preserved
loop-index-preserved c =
    let k = c.args.checked.now in
    let slots = slots_items c.args.outcome.now.closed.row.slots in
    let now = slots_items c.loop-index.outcome.closed.row.slots in
    let n = c.loop-index.index in
    let parts = c.loop-index.parts.items in
    let action = c.index-actions-index.result in
    let at : slice_get c.as_slice-actions.result.now n ≡ Some action = slice_get-get_or c.as_slice-actions.result.now n action c.loop-index-test.true ∙ ap Some (sym c.index-actions-index.is) in
    let kind : KindIs k.plan n action.kind = (action, subst (λ xs. slice_get xs n ≡ Some action) c.loop-index.invariant.same at, refl) in
    let here : site_in (slice_index_or now n Empty) ≡ site_in (slice_index_or slots n Empty) = ap site_in (c.loop-index.invariant.kept n (omega arith)) in
    elim c.match-kind.branch [
      | in-Commit+in-Some w ↦
          let is : KindIs k.plan n (Commit w.in-Commit.entry) = subst (λ (z : Kind). KindIs k.plan n z) (sym c.kind.ensures ∙ ap kind_lent w.in-Commit.is) kind in
          let within = c.requires.within n w.in-Commit.entry is in
          let count = c.loop-index.invariant.count in
          record {
            same = c.loop-index.invariant.same;
            count = search rules;
            slots = search rules;
            kept = λ j less.
                ap (λ z. slice_index_or (slots_items z.closed.row.slots) j Empty) w.outcome-is ∙ ap (λ z. slice_index_or z j Empty) w.take_site.ensures.others
                ∙ later_kept now slots n c.loop-index.invariant.kept j less;
            taken = subst (λ z. AreTakenBelow (n + 1) k.plan slots z) (ap (λ z. set parts w.in-Commit.entry z) (sym w.into_content.ensures) ∙ sym (ap (λ z. z.items) w.parts-is))
                (taken_here (snapshot_of k) k.plan c.plan.ensures.valid slots n parts c.loop-index.invariant.taken w.in-Commit.entry w.in-Some.site is
                (sym here ∙ sym w.take_site.ensures.site ∙ w.in-Some.is) (omega arith));
          }
      | in-Commit+in_default-take_site w ↦ record {
        same = c.loop-index.invariant.same;
        count = search rules;
        slots = search rules;
        kept = λ j less.
            ap (λ z. slice_index_or (slots_items z.closed.row.slots) j Empty) w.outcome-is ∙ ap (λ z. slice_index_or z j Empty) w.take_site.ensures.others
            ∙ later_kept now slots n c.loop-index.invariant.kept j less;
        taken = subst (λ z. AreTakenBelow (n + 1) k.plan slots z) (sym (ap (λ z. z.items) w.parts-is))
            (taken_past (snapshot_of k) k.plan c.plan.ensures.valid slots n parts c.loop-index.invariant.taken
            (λ e rows is held. none-some rows (sym w.in_default-take_site.is ∙ w.take_site.ensures.site ∙ here ∙ held)));
      }
      | in_default w ↦ record {
        same = c.loop-index.invariant.same;
        count = search rules;
        slots = search rules;
        kept = λ j less. ap (λ z. slice_index_or (slots_items z.closed.row.slots) j Empty) w.outcome-is ∙ c.loop-index.invariant.kept j (omega arith);
        taken = subst (λ z. AreTakenBelow (n + 1) k.plan slots z) (sym (ap (λ z. z.items) w.parts-is))
            (taken_past (snapshot_of k) k.plan c.plan.ensures.valid slots n parts c.loop-index.invariant.taken
            (λ e rows is held. lent_no_commit c.kind.result w.in_default.not-Commit e (c.kind.ensures ∙ same_kind k.plan n action.kind (Commit e) kind is)));
      }
    ]

pub returns-clause-parts : goal.returns-clause-parts
returns-clause-parts c =
    let k = c.args.checked.now in
    let same = ap length c.loop-index.invariant.same in
    let past = c.loop-index-test.false in
    taken_all (snapshot_of k) k.plan c.plan.ensures.valid (slots_items c.args.outcome.now.closed.row.slots) c.loop-index.index c.loop-index.parts.items c.loop-index.invariant.taken (omega arith)
