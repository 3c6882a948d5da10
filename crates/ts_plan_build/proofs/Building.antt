-- Blocks that are added one after another.
use Rattle.std.proofs.Common.{◌≡◌, ℕ, ◌+◌, ◌<◌, ◌≤◌, ◌*◌, sum_by, length-append, List, [], ◌++◌, length, Option, Some, slice_get, sym, ap, ◌∙◌, subst, inl, inr, arith, append_assoc, append-nil}
use Rattle.std.proofs.lemmas.Bool.{cases_lt}
use Rattle.std.proofs.lemmas.Option.{none-some}
use Rattle.ts_model.specs.Trees.{Listing}
use Rattle.ts_model.specs.declared.row.Stamp.{Stamp}
use Rattle.ts_model.specs.declared.plan.Entry.{Entry}
use Rattle.ts_model.specs.declared.plan.Action.{Action}
use Rattle.ts_plan_build.specs.Blocks.{block}
use Rattle.ts_plan_build.specs.Built.{entry_of, NoneOf, IsAboveMark, IsLocated, IsBuilt}
use Rattle.ts_plan_build.proofs.Places.{get_cases}
use Rattle.std.proofs.lemmas.List.Sums.{sum_by-append}
use Rattle.ts_plan_build.proofs.Inside.{block_entry, block_preds}
use Rattle.ts_name.proofs.Basics.{same_at}

-- one more block
pub built_more : (F S : Listing Stamp) (entries : List Entry) (old new : List Action) (k : ℕ) (entry : Entry) (above : Option ℕ) → IsBuilt F S entries old k → slice_get entries k ≡ Some entry
    → IsAboveMark entries old entry above → new ≡ old ++ block F S k entry.path entry.reason above (length old) → IsBuilt F S entries new (k + 1)
built_more F S entries old new k entry above w is dir e = subst (λ (acts : List Action). IsBuilt F S entries acts (k + 1)) (sym e) (record { below = below; located = located; preds = preds })
  where
    below : (i : ℕ) (a : Action) → slice_get (old ++ block F S k entry.path entry.reason above (length old)) i ≡ Some a → entry_of a.kind < k + 1
    below i a h = elim (get_cases old (block F S k entry.path entry.reason above (length old)) i a h) [
      | inl before ↦ let l : entry_of a.kind < k = w.below i a before in omega arith
      | inr later ↦ let f : entry_of a.kind ≡ k = block_entry F S k entry.path entry.reason above (length old) later.0 a later.2 in omega arith
    ]

    preds : sum_by (λ a. length a.preds) (old ++ block F S k entry.path entry.reason above (length old)) ≤ 2 * length (old ++ block F S k entry.path entry.reason above (length old))
    preds =
        let before : sum_by (λ a. length a.preds) old ≤ 2 * length old = w.preds in
        let more : sum_by (λ a. length a.preds) (block F S k entry.path entry.reason above (length old)) ≤ 2 * length (block F S k entry.path entry.reason above (length old)) = block_preds F S k entry.path entry.reason above (length old) in
        let sums : sum_by (λ a. length a.preds) (old ++ block F S k entry.path entry.reason above (length old)) ≡ sum_by (λ a. length a.preds) old + sum_by (λ a. length a.preds) (block F S k entry.path entry.reason above (length old)) = sum_by-append (λ (a : Action). length a.preds) old (block F S k entry.path entry.reason above (length old)) in
        let lengths : length (old ++ block F S k entry.path entry.reason above (length old)) ≡ length old + length (block F S k entry.path entry.reason above (length old)) = length-append old (block F S k entry.path entry.reason above (length old)) in
        omega arith

    of_old : NoneOf k old
    of_old i a h f = let l : entry_of a.kind < k = w.below i a h in absurd (omega arith)

    located : (x : ℕ) (other : Entry) → x < k + 1 → slice_get entries x ≡ Some other → IsLocated F S entries (old ++ block F S k entry.path entry.reason above (length old)) x other
    located x other l h = elim (cases_lt x k) [
      | inl less ↦ let found = w.located x other less h in record {
        before = found.before;
        after = found.after ++ block F S k entry.path entry.reason above (length old);
        above = found.above;
        here = ap (λ (z : List Action). z ++ block F S k entry.path entry.reason above (length old)) found.here
            ∙ append_assoc found.before (block F S x other.path other.reason found.above (length found.before) ++ found.after) (block F S k entry.path entry.reason above (length old))
            ∙ ap (λ (z : List Action). found.before ++ z) (append_assoc (block F S x other.path other.reason found.above (length found.before)) found.after (block F S k entry.path entry.reason above (length old)));
        none_before = found.none_before;
        none_after = λ i a g f. elim (get_cases found.after (block F S k entry.path entry.reason above (length old)) i a g) [
          | inl before ↦ found.none_after i a before f
          | inr later ↦ absurd (let m : entry_of a.kind ≡ k = block_entry F S k entry.path entry.reason above (length old) later.0 a later.2 in omega arith)
        ];
        dir = found.dir;
      }
      | inr more ↦
          let same : x ≡ k = omega arith in
          let entries_same : other ≡ entry = same_at entries k other entry (subst (λ (n : ℕ). slice_get entries n ≡ Some other) same h) is in
          subst (λ (n : ℕ). IsLocated F S entries (old ++ block F S k entry.path entry.reason above (length old)) n other) (sym same)
          (subst (λ (z : Entry). IsLocated F S entries (old ++ block F S k entry.path entry.reason above (length old)) k z) (sym entries_same) (record {
            before = old;
            after = [];
            above = above;
            here = ap (λ (z : List Action). old ++ z) (sym (append-nil (block F S k entry.path entry.reason above (length old))));
            none_before = of_old;
            none_after = λ i a g f. none-some a g;
            dir = dir;
          }))
    ]
