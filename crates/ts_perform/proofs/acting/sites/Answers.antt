use Rattle.std.proofs.Common.{arith, ℕ, ◌≡◌, ◌<◌, ◌≤◌, List, Some, get_or, map, length, slice_get, sym, refl, ap, ◌∙◌, subst}
use Rattle.ts_model.specs.Packed.{kind_lent}
use Rattle.ts_model.proofs.Lent.{lent_no_commit}
use Rattle.std.proofs.lemmas.Option.{slice_get_read}
use Rattle.ts_check.specs.Checkup.{snapshot_of}
use Rattle.ts_model.specs.Plans.{KindIs}
use Rattle.ts_model.specs.declared.plan.Action.{Action}
use Rattle.ts_model.specs.declared.plan.Entry.{Entry}
use Rattle.ts_model.specs.declared.plan.Kind.TheVariants.{Commit}
use Rattle.ts_model.specs.declared.plan.Plan.{Plan}
use Rattle.ts_laws.proofs.Bounds.{entry_within}
use Rattle.ts_perform.specs.Stands.{source_root, stands_of, target_root}
use Rattle.ts_perform.proofs.Standing.{at_end, sites_counted, stands_so, with_commit, without_commit}
use Rattle.ts_perform.proofs.acting.sites.Goals as goal
use Rattle.ts_perform.proofs.acting.sites.Goals.{in-Commit+in_ok-site+in_ok-push, in_default}

pub bounds-entries-entry : goal.bounds-entries-entry
bounds-entries-entry g c =
    let plan = c.args.checked.now.plan in let i = c.loop-action.action-index in let e = c.in-Commit.entry in let items = c.as_slice-action-items.result.now in
    let items_are : items ≡ plan.actions = c.as_slice-action-items.ensures ∙ ap (λ (p : Plan). p.actions) c.plan-plan.ensures.plan in
    let entries_are : c.as_slice-entries.result.now ≡ plan.entries = c.as_slice-entries.ensures ∙ ap (λ (p : Plan). p.entries) c.plan-plan.ensures.plan in
    let read : slice_get items i ≡ Some c.action-item.result = slice_get_read items (length items) i c.action-item.result refl c.loop-action-test.true c.action-item.is in
    let kind : KindIs plan i (Commit e) = (c.action-item.result, sym (ap (λ (l : List Action). slice_get l i) items_are) ∙ read, sym c.kind.ensures ∙ ap kind_lent c.in-Commit.is) in
    subst (λ (l : List Entry). e < length l) (sym entries_are) (entry_within (snapshot_of c.args.checked.now) plan c.plan-plan.ensures.valid i e kind)

pub loop-action-preserved : goal.loop-action-preserved
loop-action-preserved g c =
    let plan = c.args.checked.now.plan in let i = c.loop-action.action-index in let items = c.as_slice-action-items.result.now in
    let first = c.args.pair.now.first.now in let second = c.args.pair.now.second.now in
    let all = stands_of first second plan.entries plan.actions in
    let items_are : items ≡ plan.actions = c.as_slice-action-items.ensures ∙ ap (λ (p : Plan). p.actions) c.plan-plan.ensures.plan in
    let entries_are : c.as_slice-entries.result.now ≡ plan.entries = c.as_slice-entries.ensures ∙ ap (λ (p : Plan). p.entries) c.plan-plan.ensures.plan in
    let within : i < length plan.actions = subst (λ (l : List Action). i < length l) items_are c.loop-action-test.true in
    let is : c.action-item.result ≡ get_or plan.actions i c.action-item.result = c.action-item.is ∙ ap (λ (l : List Action). get_or l i c.action-item.result) items_are in
    let there : (e : ℕ) → c.action-item.result.kind ≡ Commit e → e < length c.as_slice-entries.result.now = λ e kind.
    subst (λ (l : List Entry). e < length l) (sym entries_are) (entry_within (snapshot_of c.args.checked.now) plan c.plan-plan.ensures.valid i e
    (c.action-item.result, slice_get_read plan.actions (length plan.actions) i c.action-item.result refl within is, kind)) in
    elim c.match-kind.branch [
      | in-Commit+in_ok-site+in_ok-push w ↦
          let e = w.in-Commit.entry in let entry = w.index-entries-entry.result in
          let read : slice_get plan.entries e ≡ Some entry =
          sym (ap (λ (l : List Entry). slice_get l e) entries_are) ∙ slice_get_read c.as_slice-entries.result.now (length c.as_slice-entries.result.now) e entry refl (there e (sym c.kind.ensures ∙ ap kind_lent w.in-Commit.is)) w.index-entries-entry.is in
          let to = g.R.Disk.to in let from = g.R.Disk.from in
          let target : to w.way_of-way.result.now ≡ target_root first second entry.reason =
          w.way_of-way.ensures.target ∙ ap (λ (r : List ℕ). target_root r (to c.in_ok-to_second.to_second) entry.reason) c.in_ok-to_first.ensures.to
          ∙ ap (λ (r : List ℕ). target_root first r entry.reason) c.in_ok-to_second.ensures.to in
          let source : from w.way_of-way.result.now ≡ source_root first second entry.reason =
          w.way_of-way.ensures.source ∙ ap (λ (r : List ℕ). source_root r (from c.in_ok-to_first.to_first) entry.reason) c.in_ok-to_second.ensures.from
          ∙ ap (λ (r : List ℕ). source_root first r entry.reason) c.in_ok-to_first.ensures.from in
          rw w.sites-is (rw w.in_ok-push.ensures.items (with_commit g.R.Disk.stand c.loop-action.sites.items w.in_ok-site.field-0 first second plan.entries plan.actions i c.action-item.result e entry all within is (sym c.kind.ensures ∙ ap kind_lent w.in-Commit.is) read (stands_so (g.R.Disk.stand w.in_ok-site.field-0) (to w.way_of-way.result.now) (from w.way_of-way.result.now) first second entry w.in_ok-site.ensures.stand target source) c.loop-action.invariant))
      | in_default w ↦
          rw w.sites-is (without_commit first second plan.entries plan.actions i c.action-item.result (map (λ s. Some (g.R.Disk.stand s)) c.loop-action.sites.items) all within is (λ e of. lent_no_commit c.kind.result w.in_default.not-Commit e (c.kind.ensures ∙ of)) c.loop-action.invariant)
    ]

pub returns-clause-stands : goal.returns-clause-stands
returns-clause-stands g c =
    let plan = c.args.checked.now.plan in let first = c.args.pair.now.first.now in let second = c.args.pair.now.second.now in
    let items_are : c.as_slice-action-items.result.now ≡ plan.actions = c.as_slice-action-items.ensures ∙ ap (λ (p : Plan). p.actions) c.plan-plan.ensures.plan in
    at_end first second plan.entries plan.actions c.loop-action.action-index (map (λ s. Some (g.R.Disk.stand s)) c.loop-action.sites.items) (stands_of first second plan.entries plan.actions)
    (subst (λ (l : List Action). length l ≤ c.loop-action.action-index) items_are (let g = c.loop-action-test.false in omega arith)) c.loop-action.invariant

pub returns-clause-count : goal.returns-clause-count
returns-clause-count g c =
    let plan = c.args.checked.now.plan in
    sites_counted g.R.Disk.stand c.loop-action.sites.items c.args.pair.now.first.now c.args.pair.now.second.now plan.entries plan.actions (returns-clause-stands g c)
