use Rattle.std.proofs.Common.{◌≡◌, ◌<◌, ◌++◌, ◌∷◌, [], ◌+◌, Some, length, length-append, get_or, refl, slice_get, sym, take, ap, ◌∙◌, subst, arith, rules}
use Rattle.ts_model.specs.Packed.{kind_lent}
use Rattle.ts_model.proofs.Lent.{lent_no_commit}
use Rattle.std.proofs.lemmas.Option.{get_or_from_slice_get, slice_get-get_or, slice_get_within}
use Rattle.ts_board.specs.Terms.{commit_count}
use Rattle.ts_laws.proofs.Steps.{same_kind}
use Rattle.ts_model.specs.Plans.{KindIs}
use Rattle.ts_model.specs.declared.plan.Kind.{Kind}
use Rattle.ts_model.specs.declared.plan.Kind.TheVariants.{Commit}
use Rattle.ts_through.proofs.Placing.{ArePlacedBelow, commit_counts, commits_beside, left_past, other_counts, placed_all, placed_here, placed_past}
use Rattle.ts_through.proofs.cut.sites.Goals as goal
use Rattle.ts_through.proofs.cut.sites.Goals.{in-Commit+in_ok-push, in_default}

pub index_mut-requires : goal.index_mut-requires
index_mut-requires c =
    let items = c.as_slice-action-items.result.now in let n = c.loop-action.action-index in let action = c.action-item.result in
    let at : slice_get items n ≡ Some action = slice_get-get_or items n action c.loop-action-test.true ∙ ap Some (sym c.action-item.is) in
    let there : slice_get c.args.plan.now.actions n ≡ Some action = subst (λ xs. slice_get xs n ≡ Some action) c.as_slice-action-items.ensures at in
    let kind : action.kind ≡ Commit c.in-Commit.entry = sym c.kind.ensures ∙ ap kind_lent c.in-Commit.is in
    let within = c.requires.within n c.in-Commit.entry (action, there, kind) in let count = c.loop-action.invariant.count in omega arith

pub loop-action-preserved : goal.loop-action-preserved
loop-action-preserved c =
    let plan = c.args.plan.now in let n = c.loop-action.action-index in let action = c.action-item.result in let inv = c.loop-action.invariant in
    let old = c.args.parts.now.items in let parts = c.loop-action.parts.items in let sites = c.loop-action.sites.items in
    let at : slice_get c.as_slice-action-items.result.now n ≡ Some action = slice_get-get_or c.as_slice-action-items.result.now n action c.loop-action-test.true ∙ ap Some (sym c.action-item.is) in
    let there : slice_get plan.actions n ≡ Some action = subst (λ xs. slice_get xs n ≡ Some action) c.as_slice-action-items.ensures at in
    let kind : KindIs plan n action.kind = (action, there, refl) in
    let less : n < length plan.actions = slice_get_within plan.actions n action there in
    let here : action ≡ get_or plan.actions n action = sym (get_or_from_slice_get plan.actions n action action there) in
    elim c.match-kind.branch [
      | in-Commit+in_ok-push w ↦
          let e = w.in-Commit.entry in let part = w.replace-part.result in
          let is : KindIs plan n (Commit e) = subst (λ (z : Kind). KindIs plan n z) (sym c.kind.ensures ∙ ap kind_lent w.in-Commit.is) kind in
          let within = c.requires.within n e is in
          let had : slice_get parts e ≡ Some part = slice_get-get_or parts e w.index_mut.result.now (omega (arith, within, inv.count)) ∙ ap Some (sym w.index_mut.ensures.value ∙ sym w.replace-part.ensures.value) in
          let first : slice_get old e ≡ Some part = sym (inv.kept n e (omega arith) is) ∙ had in
          let items : c.match-kind.sites.items ≡ sites ++ part ∷ [] = ap (λ v. v.items) w.sites-is ∙ w.in_ok-push.ensures.items ∙ ap (λ z. sites ++ z ∷ []) w.new.ensures in
          let all = commits_beside plan.actions n in
          let rest = inv.rest in
          let before : length sites ≡ commit_count (take n plan.actions) = omega arith in
          record {
            rest =
                let one_more = ap length items in let together = length-append sites (part ∷ []) in
                let counts = commit_counts plan.actions n action e less here (sym c.kind.ensures ∙ ap kind_lent w.in-Commit.is) in omega arith;
            count = search rules;
            laid = subst (λ z. ArePlacedBelow (n + 1) plan old z) (sym items)
                (placed_here plan n old sites e part (λ i f of. let short = c.requires.within i f of in omega (arith, short, c.requires.parts)) is first before inv.laid);
            kept = λ i f later of. ap (λ v. slice_get v.items f) w.parts-is ∙ left_past plan n old parts e w.replace-part.new.dest c.requires.one is inv.kept i f later of;
          }
      | in_default w ↦
          let same : c.match-kind.sites.items ≡ sites = ap (λ v. v.items) w.sites-is in
          record {
            rest =
                let as_long = ap length same in let rest = inv.rest in
                let counts = other_counts plan.actions n action less here (λ e of. lent_no_commit c.kind.result w.in_default.not-Commit e (c.kind.ensures ∙ of)) in omega arith;
            count = search rules;
            laid = subst (λ z. ArePlacedBelow (n + 1) plan old z) (sym same)
                (placed_past plan n old sites (λ e of. lent_no_commit c.kind.result w.in_default.not-Commit e (c.kind.ensures ∙ same_kind plan n action.kind (Commit e) kind of)) inv.laid);
            kept = λ i f later of. ap (λ v. slice_get v.items f) w.parts-is ∙ inv.kept i f (omega arith) of;
          }
    ]

pub returns-clause-laid : goal.returns-clause-laid
returns-clause-laid c =
    let same = ap length c.as_slice-action-items.ensures in let past = c.loop-action-test.false in
    placed_all c.args.plan.now c.loop-action.action-index c.args.parts.now.items c.loop-action.sites.items (omega arith) c.loop-action.invariant.laid
