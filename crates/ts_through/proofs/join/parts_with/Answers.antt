use Rattle.std.proofs.Common.{◌≡◌, ◌≢◌, ◌++◌, ◌∷◌, [], ◌+◌, Some, slice_get, sym, ap, ◌∙◌, subst, arith, rules, false}
use Rattle.std.proofs.lemmas.Option.{same_Some, slice_get-get_or}
use Rattle.ts_model.specs.Trees.{at, listed, sub}
use Rattle.ts_through.proofs.Parts.{AreSoFar, all_parts, beside, part_is, with_part, without_part}
use Rattle.ts_through.proofs.join.parts_with.Goals as goal
use Rattle.ts_through.proofs.join.parts_with.Goals.{then-is_from+in_ok-push, else-is_from}
use Rattle.ts_model.specs.Plans.{is_from, source}
use Rattle.ts_model.proofs.Reasons.{source_from_test, test_from_source}
use Rattle.std.proofs.lemmas.Bool.{true≢false}

pub loop-index-preserved : goal.loop-index-preserved
loop-index-preserved c =
    let r = c.args.from in let origin = c.args.source.now in let entries = c.args.entries.now in let n = c.loop-index.index in let entry = c.index-entries-index.result in
    let there : slice_get entries n ≡ Some entry = slice_get-get_or entries n entry c.loop-index-test.true ∙ ap Some (sym c.index-entries-index.is) in
    elim c.if-is_from.branch [
      | then-is_from+in_ok-push w ↦
          let why : source entry.reason ≡ Some r = source_from_test r entry.reason (search rules) in
          let items : c.if-is_from.back.items ≡ c.loop-index.back.items ++ w.replace-part.result ∷ [] = ap (λ v. v.items) w.back-is ∙ w.in_ok-push.ensures.items in
          let laid = c.requires.laid n entry there why in
          let got : slice_get c.loop-index.parts.items n ≡ Some laid.0 = c.loop-index.invariant.kept n entry there (λ _. omega arith) ∙ laid.1 in
          let had : w.index_mut.result.now ≡ laid.0 = same_Some w.index_mut.result.now laid.0 (ap Some w.index_mut.ensures.value ∙ sym (slice_get-get_or c.loop-index.parts.items n w.index_mut.result.now (omega (arith, c.loop-index-test.true, c.loop-index.invariant.count))) ∙ got) in
          let lists : listed w.replace-part.result ≡ sub (at origin) entry.path = ap listed (w.replace-part.ensures.value ∙ had) ∙ laid.2 in
          record {
            parts = subst (λ back. AreSoFar r (at origin) entries (n + 1) back) (sym items)
                (with_part r (at origin) entries n entry c.loop-index.back.items w.replace-part.result c.loop-index-test.true c.index-entries-index.is why
                (part_is origin entry.path w.replace-part.result c.rows-source_rows.ensures.lawful.listing w.rows-part_rows.ensures.lawful.listing lists) c.loop-index.invariant.parts);
            kept = λ e x is later.
                ap (λ v. slice_get v.items e) w.parts-is
                ∙ beside entries c.loop-index.parts.items n e entry x w.replace-part.new.dest r there is why later
                ∙ c.loop-index.invariant.kept e x is (λ same. let l = later same in omega arith);
            count = search rules;
          }
      | else-is_from w ↦
          let elsewhere : is_from r entry.reason ≡ false = search rules in
          let other : source entry.reason ≢ Some r = λ h. true≢false (sym (test_from_source r entry.reason h) ∙ elsewhere) in
          record {
            parts = subst (λ back. AreSoFar r (at origin) entries (n + 1) back) (sym (ap (λ v. v.items) w.back-is))
                (without_part r (at origin) entries n entry c.loop-index.back.items c.loop-index-test.true c.index-entries-index.is other c.loop-index.invariant.parts);
            kept = λ e x is later.
                ap (λ v. slice_get v.items e) w.parts-is
                ∙ c.loop-index.invariant.kept e x is (λ same. let l = later same in omega arith);
            count = search rules;
          }
    ]

pub returns-clause-parts : goal.returns-clause-parts
returns-clause-parts c =
    all_parts c.args.from (at c.args.source.now) c.args.entries.now c.loop-index.index c.loop-index.back.items (omega (arith, c.loop-index-test.false)) c.loop-index.invariant.parts
