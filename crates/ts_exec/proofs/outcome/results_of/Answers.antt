use Rattle.std.proofs.Common.{◌≡◌, ◌<◌, ◌≤◌, ◌++◌, ◌∷◌, [], ℕ, List, length, Some, slice_get, sym, ap, ◌∙◌, subst, ⊎_elim, arith, rules, length-append}
use Rattle.std.specs.Prelude.{slice_index_or}
use Rattle.std.specs.Mem.Slots.{slots_items}
use Rattle.std.proofs.lemmas.Bool.{cases_lt}
use Rattle.std.proofs.lemmas.Option.{same_Some, slice_get_within}
use Rattle.ts_name.proofs.Basics.{got_front, got_last}
use Rattle.ts_exec.specs.Outcomes.{ResultIs}
use Rattle.ts_exec.specs.declared.outcome.ActionResult.{ActionResult}
use Rattle.ts_exec.specs.declared.outcome.ActionResult.TheVariants.{Done}
use Rattle.ts_exec.proofs.Noting.{got_index}
use Rattle.ts_exec.proofs.outcome.results_of.Goals as goal

pub loop-i-preserved : goal.loop-i-preserved
loop-i-preserved g c =
    let plan = c.args.checked.now.plan in let faults = c.args.faults.now in let words = slots_items c.args.closed.now.row.words in
    let xs = c.loop-i.results.items in let x = c.result_of.result in let inv = c.loop-i.invariant in
    let pushed = c.push_reserved.ensures.items in
    let count = inv.count in let room = inv.room in
    let longer : length c.push_reserved.new.self.items ≡ length (xs ++ x ∷ []) = ap length pushed in
    let one_more = length-append xs (x ∷ []) in
    record {
      count = omega arith;
      room = search rules;
      each = λ run end m r at.
          let in_both : slice_get (xs ++ x ∷ []) m ≡ Some r = ap (λ (z : List ActionResult). slice_get z m) (sym pushed) ∙ at in
          ⊎_elim
          (λ (before : m < length xs).
          let old = got_index xs m Done before in
          let same = same_Some (slice_index_or xs m Done) r (sym (got_front xs (x ∷ []) m (slice_index_or xs m Done) old) ∙ in_both) in
          inv.each run end m r (old ∙ ap Some same))
          (λ (after : length xs ≤ m).
          let within = slice_get_within (xs ++ x ∷ []) m r in_both in
          let here : length xs ≡ m = omega arith in
          let last = got_last xs x in
          let same = same_Some x r (sym last ∙ ap (λ (z : ℕ). slice_get (xs ++ x ∷ []) z) here ∙ in_both) in
          subst (λ (z : ActionResult). ResultIs plan run faults m z) same
          (subst (λ (z : ℕ). ResultIs plan run faults z x) (sym count ∙ here) (c.result_of.ensures run end)))
          (cases_lt m (length xs));
    }
