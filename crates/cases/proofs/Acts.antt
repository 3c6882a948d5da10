-- What was done with what a pass holds.
use Rattle.std.proofs.Common.{◌≡◌, ℕ, true, List, sym, subst}
use Rattle.std.specs.Prelude.{Option}
use Rattle.ts_model.specs.Trees.{Listing}
use Rattle.ts_model.specs.Runs.{Run, WordsAllow}
use Rattle.ts_model.specs.declared.step.Step.TheVariants.{Act}
use Rattle.ts_model.specs.declared.step.Work.{Work}
use Rattle.ts_board.specs.declared.law.Terms.{Terms}
use Rattle.ts_board.specs.declared.law.Slot.{Slot}
use Rattle.ts_board.specs.declared.board.Held.{Held}
use Rattle.ts_board.specs.Terms.{Suits, IsTold, work_in}
use Rattle.ts_board.specs.Calls.{HasActed}

module _ {S : Type 0} (content : S → Option (Listing (List ℕ))) where
  -- the work that suits the action was done with what is held
  pub acted_by : (t : Terms) (own : Run) (h : Held S) (i : ℕ) (w : Work) → h.acted ≡ true → h.action ≡ i → work_in h.slot ≡ w → WordsAllow t.plan own (Act i w) × Suits t (Act i w) → IsTold content t h.action h.slot
      → HasActed content t own h
  acted_by t own h i w acted action did may told =
      let here = subst (λ (x : ℕ × Work). WordsAllow t.plan own (Act x.0 x.1) × Suits t (Act x.0 x.1)) (λ k. (sym action k, sym did k)) may in
      (acted, here.0, here.1, told)

  -- what a slot tells, of what is the same
  pub told_same : (t : Terms) (i j : ℕ) (x y : Slot S) → j ≡ i → y ≡ x → IsTold content t i x → IsTold content t j y
  told_same t i j x y same_action same_slot told = subst (λ (z : ℕ × Slot S). IsTold content t z.0 z.1) (λ k. (sym same_action k, sym same_slot k)) told
