-- What the words, the faults and the sites of a closed board say.
use Rattle.std.proofs.Common.{◌≡◌, ◌≢◌, ◌⊎◌, ℕ, suc, ◌*◌, ◌^◌, ◌<◌, bit_and, get_or, zero-mul, true, false, List, [], ◌∷◌, length, Some, None, sym, refl, ap, ◌∙◌, subst, inl, inr, ⊎_elim, arith}
use Rattle.std.specs.Prelude.{slice_index, Contains}
use Rattle.std.specs.List.{list_any}
use Rattle.std.specs.Int.{bit_at}
use Rattle.std.proofs.lemmas.Bool.{true≢false, cases_eq}
use Rattle.std.proofs.lemmas.Nat.Bits.{and_pow, bit_at-lt}
use Rattle.std.proofs.lemmas.Nat.{pow_pos}
use Rattle.ts_check.specs.Checkup.{preds}
use Rattle.ts_model.specs.Sync.{Snapshot}
use Rattle.ts_model.specs.Plans.{ActionIs, Valid, Waits}
use Rattle.ts_model.specs.Runs.{Run, Has, HasNot, Legal, claims, finishes, fails, releases, open_count, word_after}
use Rattle.ts_model.specs.declared.plan.Action.{Action}
use Rattle.ts_model.specs.declared.plan.Plan.{Plan}
use Rattle.ts_laws.proofs.Lists.{Among, Among-from_Contains, Contains-from_Among}
use Rattle.ts_laws.proofs.Runs.{same_action}
use Rattle.ts_board.specs.Runs.{StartsWith}
use Rattle.ts_board.proofs.Words.{done_word, failed_word, false_from_bit, true_from_bit}
use Rattle.ts_exec.specs.Tidy.{IsTidy, WasTried}
use Rattle.ts_exec.proofs.Steps.{not_some, none_or_some}
use Rattle.ts_exec.proofs.Runs.{free_word, legal_front}
use Rattle.ts_name.proofs.Basics.{element_at}
use Rattle.ts_laws.proofs.Cuts.{any_in_longer}

-- ---- what an unclaimed action waits for

-- all of these are done, or one is not
some_open : (r : Run) (ks : List ℕ) → ((k : ℕ) → Among k ks → Has r (finishes k)) ⊎ ((k : ℕ) × Among k ks × HasNot r (finishes k))
some_open r [] = inl (λ k h. absurd h)
some_open r (x ∷ xs) = ⊎_elim
    (λ (d : list_any (finishes x) r ≡ true). ⊎_elim
    (λ (all : (k : ℕ) → Among k xs → Has r (finishes k)). inl (λ k h. elim h [ inl e ↦ subst (λ (z : ℕ). Has r (finishes z)) e d | inr more ↦ all k more ]))
    (λ (one : (k : ℕ) × Among k xs × HasNot r (finishes k)). inr (one.0, inr one.1, one.2))
    (some_open r xs))
    (λ (n : list_any (finishes x) r ≡ false). inr (x, inl refl, n))
    (none_or_some (list_any (finishes x) r))

pub open_pred : (s : Snapshot) (plan : Plan) → Valid s plan → (r : Run) → Legal s plan r → (i : ℕ) → i < length plan.actions → HasNot r (claims i) → WasTried plan r r i
    → (k : ℕ) × Waits plan i k × HasNot r (finishes k)
open_pred s plan valid r legal i within none tried = ⊎_elim
    (λ (h : Has r (claims i)). absurd (true≢false (sym h ∙ none)))
    (λ (w : (then : Run) × StartsWith r then × (word_after plan then i ≢ 0) × ((k : ℕ) → Waits plan i k → Has r (finishes k) → Has then (releases k i))).
    let action = element_at plan.actions i within in
    ⊎_elim
    (λ (all : (k : ℕ) → Among k action.0.preds → Has r (finishes k)). absurd (w.2 (free_word s plan valid w.0 (prefix w) i action (not_some (list_any (claims i) w.0) (λ h. true≢false (sym (at_end w h) ∙ none)))
    (λ k waits. w.3 k waits (all k (among action waits))))))
    (λ (one : (k : ℕ) × Among k action.0.preds × HasNot r (finishes k)). (one.0, (action.0, action.1, Contains-from_Among action.0.preds one.0 one.1), one.2))
    (some_open r action.0.preds))
    tried
  where
    prefix : (w : (then : Run) × StartsWith r then × (word_after plan then i ≢ 0) × ((k : ℕ) → Waits plan i k → Has r (finishes k) → Has then (releases k i))) → Legal s plan w.0
    prefix w = legal_front s plan [] w.0 w.1.0 (subst (λ (z : Run). Legal s plan z) w.1.1 legal)

    at_end : (w : (then : Run) × StartsWith r then × (word_after plan then i ≢ 0) × ((k : ℕ) → Waits plan i k → Has r (finishes k) → Has then (releases k i))) → Has w.0 (claims i) → Has r (claims i)
    at_end w h = subst (λ (z : Run). Has z (claims i)) (sym w.1.1) (any_in_longer (claims i) w.0 w.1.0 h)

    among : (action : (a : Action) × ActionIs plan i a) {k : ℕ} → Waits plan i k → Among k action.0.preds
    among action {k} waits = subst (λ (a : Action). Among k a.preds) (same_action plan i waits.0 action.0 waits.1 action.1) (Among-from_Contains waits.0.preds k waits.2)

-- ---- tests of a word

pub bit_some : (w k : ℕ) → bit_and w (2 ^ k) ≢ 0 → bit_at w k ≡ 1
bit_some w k some = ⊎_elim
    (λ (e : bit_at w k ≡ 0). absurd (some (and_pow w k ∙ ap (λ (z : ℕ). z * 2 ^ k) e ∙ zero-mul (2 ^ k))))
    (λ (n : bit_at w k ≢ 0). let few = bit_at-lt w k in omega arith)
    (cases_eq (bit_at w k) 0)

bit_none : (w k : ℕ) → bit_and w (2 ^ k) ≡ 0 → bit_at w k ≢ 1
bit_none w k none e =
    let whole : 0 ≡ 1 * 2 ^ k = sym none ∙ and_pow w k ∙ ap (λ (z : ℕ). z * 2 ^ k) e in
    let some = pow_pos k in absurd (omega arith)

module _ (plan : Plan) (r : Run) (words : List ℕ) (i : ℕ) (is : slice_index words i ≡ word_after plan r i) (small : open_count plan r i < 4294967296) where
  pub done_from_bit : bit_at (slice_index words i) 33 ≡ 1 → Has r (finishes i)
  done_from_bit h = true_from_bit (list_any (finishes i) r) (sym (ap (λ (z : ℕ). bit_at z 33) is ∙ done_word plan r i small) ∙ h)

  pub bit_from_some : (w : ℕ) → w ≡ slice_index words i → bit_and w 8589934592 ≢ 0 → bit_at (slice_index words i) 33 ≡ 1
  bit_from_some w e some = ap (λ (z : ℕ). bit_at z 33) (sym e) ∙ bit_some w 33 some

  pub done_is : (w : ℕ) → w ≡ slice_index words i → bit_and w 8589934592 ≢ 0 → Has r (finishes i)
  done_is w e some = done_from_bit (bit_from_some w e some)

  pub not_done_is : (w : ℕ) → w ≡ slice_index words i → bit_and w 8589934592 ≡ 0 → HasNot r (finishes i)
  not_done_is w e none = false_from_bit (list_any (finishes i) r) (λ one. bit_none w 33 none (ap (λ (z : ℕ). bit_at z 33) (e ∙ is) ∙ done_word plan r i small ∙ one))

  pub failed_is : (w : ℕ) → w ≡ slice_index words i → bit_and w 17179869184 ≢ 0 → Has r (fails i)
  failed_is w e some = true_from_bit (list_any (fails i) r) (sym (ap (λ (z : ℕ). bit_at z 34) (e ∙ is) ∙ failed_word plan r i small) ∙ bit_some w 34 some)

  pub not_failed_is : (w : ℕ) → w ≡ slice_index words i → bit_and w 17179869184 ≡ 0 → HasNot r (fails i)
  not_failed_is w e none = false_from_bit (list_any (fails i) r) (λ one. bit_none w 34 none (ap (λ (z : ℕ). bit_at z 34) (e ∙ is) ∙ failed_word plan r i small ∙ one))

-- what is neither done nor failed was never claimed
pub never_claimed : (plan : Plan) (r : Run) (i : ℕ) → IsTidy plan r → HasNot r (finishes i) → HasNot r (fails i) → HasNot r (claims i)
never_claimed plan r i tidy d f = not_some (list_any (claims i) r) (λ h. ⊎_elim (λ (e : Has r (finishes i)). true≢false (sym e ∙ d)) (λ (e : Has r (fails i)). true≢false (sym e ∙ f)) (tidy.ended i h))

-- ---- predecessors by number

pub among_at : (xs : List ℕ) (k : ℕ) → Among k xs → (m : ℕ) × (m < length xs) × ((d : ℕ) → get_or xs m d ≡ k)
among_at [] k h = absurd h
among_at (x ∷ xs) k (inl e) = (0, omega arith, λ d. e)
among_at (x ∷ xs) k (inr h) = let r = among_at xs k h in let l = r.1 in (suc r.0, omega arith, λ d. r.2 d)

module _ (plan : Plan) (i : ℕ) (xs : List ℕ) (are : xs ≡ preds plan i) (within : i < length plan.actions) where
  action : (a : Action) × ActionIs plan i a
  action = element_at plan.actions i within

  same_preds : xs ≡ action.0.preds
  same_preds = are ∙ ap (λ o. elim o [ None ↦ [] | Some a ↦ a.preds ]) action.1

  pub waits_from : (k : ℕ) → Contains xs k → Waits plan i k
  waits_from k h = (action.0, action.1, subst (λ (l : List ℕ). Contains l k) same_preds h)

  pub among_from : (k : ℕ) → Waits plan i k → Among k xs
  among_from k w =
      let same : w.0 ≡ action.0 = same_action plan i w.0 action.0 w.1 action.1 in
      subst (λ (l : List ℕ). Among k l) (sym same_preds) (subst (λ (a : Action). Among k a.preds) same (Among-from_Contains w.0.preds k w.2))
