use Rattle.std.proofs.Common.{◌≡◌, ◌≢◌, ◌+◌, ◌∷◌, [], List, ℕ, length, slice_get, sym, ap, ◌∙◌, subst, arith, rules, Some, false}
use Rattle.std.specs.Vec.Iter.{into_iter_items}
use Rattle.ts_check.proofs.Scans.{got_beside}
use Rattle.ts_model.specs.Trees.{Listing}
use Rattle.ts_model.specs.declared.plan.Entry.{Entry}
use Rattle.ts_through.proofs.Laying.{AreLaying, laid_all, laid_more, laid_past, some_left, this_one}
use Rattle.ts_through.proofs.cut.lay.Goals as goal
use Rattle.ts_through.proofs.cut.lay.Goals.{then-is_from+in-Some, then-is_from+in_default, else-is_from}
use Rattle.ts_model.specs.Plans.{is_from, source}
use Rattle.ts_model.proofs.Reasons.{source_from_test, test_from_source}
use Rattle.std.proofs.lemmas.Bool.{true≢false}
use Rattle.std.proofs.lemmas.List.{nil_from_length}

pub loop-index-preserved : goal.loop-index-preserved
loop-index-preserved c =
    let r = c.args.from in let entries = c.args.entries.now in let n = c.loop-index.index in let entry = c.index-entries-index.result in let inv = c.loop-index.invariant in
    let less = c.loop-index-test.true in let here = c.index-entries-index.is in
    elim c.if-is_from.branch [
      | then-is_from+in-Some w ↦
          let why : source entry.reason ≡ Some r = source_from_test r entry.reason (search rules) in
          let part = w.in-Some.part in
          let first : into_iter_items c.loop-index.rest ≡ part ∷ into_iter_items w.next.new.self = w.in-Some.ensures.cases.0 in
          let shorter = w.in-Some.ensures.cases.1 in
          let left = inv.left in
          let counts = ap length first in
          record {
            laid = λ t taken.
                subst (λ z. AreLaying (n + 1) r t entries (into_iter_items z) c.if-is_from.parts.items) (sym w.rest-is)
                (subst (λ (z : List (Listing (List ℕ))). AreLaying (n + 1) r t entries (into_iter_items w.next.new.self) z) (sym (ap (λ v. v.items) w.parts-is))
                (laid_more r t entries n entry less here part (into_iter_items c.loop-index.rest) (into_iter_items w.next.new.self) c.loop-index.parts.items why (omega (arith, less, inv.count)) first (inv.laid t taken)));
            others = λ e other at differ.
                ap (λ v. slice_get v.items e) w.parts-is
                ∙ got_beside c.loop-index.parts.items n e part (λ same. differ (sym (ap (λ (z : Entry). source z.reason) (this_one entries n entry less here e other same at)) ∙ why))
                ∙ inv.others e other at differ;
            count = search rules;
            left = rw w.rest-is (omega arith);
          }
      | then-is_from+in_default w ↦
          let why : source entry.reason ≡ Some r = source_from_test r entry.reason (search rules) in
          let none : into_iter_items c.loop-index.rest ≡ [] = nil_from_length (into_iter_items c.loop-index.rest) (sym inv.left ∙ w.in_default.ensures.cases.0) in
          let now : into_iter_items w.next.new.self ≡ [] = sym w.in_default.ensures.items ∙ none in
          record {
            laid = λ t taken. absurd (some_left r t entries n entry less here (into_iter_items c.loop-index.rest) c.loop-index.parts.items why none (inv.laid t taken));
            others = λ e other at differ. ap (λ v. slice_get v.items e) w.parts-is ∙ inv.others e other at differ;
            count = search rules;
            left = rw w.rest-is (w.in_default.ensures.cases.1 ∙ sym (ap length now));
          }
      | else-is_from w ↦
          let elsewhere : is_from r entry.reason ≡ false = search rules in
          let other : source entry.reason ≢ Some r = λ h. true≢false (sym (test_from_source r entry.reason h) ∙ elsewhere) in
          record {
            laid = λ t taken.
                subst (λ z. AreLaying (n + 1) r t entries (into_iter_items z) c.if-is_from.parts.items) (sym w.rest-is)
                (subst (λ (z : List (Listing (List ℕ))). AreLaying (n + 1) r t entries (into_iter_items c.loop-index.rest) z) (sym (ap (λ v. v.items) w.parts-is))
                (laid_past r t entries n entry less here (into_iter_items c.loop-index.rest) c.loop-index.parts.items other (inv.laid t taken)));
            others = λ e one at differ. ap (λ v. slice_get v.items e) w.parts-is ∙ inv.others e one at differ;
            count = search rules;
            left = rw w.rest-is inv.left;
          }
    ]

pub returns-clause-laid : goal.returns-clause-laid
returns-clause-laid c = λ t taken.
    laid_all c.args.from t c.args.entries.now c.loop-index.index _ c.loop-index.parts.items (omega (arith, c.loop-index-test.false)) (c.loop-index.invariant.laid t taken)
