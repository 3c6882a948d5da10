-- What legal runs have.
use Rattle.std.proofs.Common.{◌≡◌, ℕ, true, [], ◌∷◌, ◌++◌, sym, ap, ◌∙◌, subst, inl, inr, arith, append_assoc, append-nil, eqb-true}
use Rattle.std.specs.List.{list_any}
use Rattle.std.proofs.lemmas.Bool.{true≢false}
use Rattle.ts_model.specs.Sync.{Snapshot}
use Rattle.ts_model.specs.Plans.{Valid, Waits}
use Rattle.ts_model.specs.Runs.{Run, Has, HasNot, WordsAllow, LegalFrom, Legal, State, claims, takes, acts, finishes, fails, releases, word_after, open_count, IsAction}
use Rattle.ts_model.specs.declared.row.Content.TheVariants.{Absent}
use Rattle.ts_model.specs.declared.plan.Plan.{Plan}
use Rattle.ts_model.specs.declared.step.Step.{Step}
use Rattle.ts_model.specs.declared.step.Step.TheVariants.{Take, Fail}
use Rattle.ts_laws.proofs.Lists.{Contains-from_Among, any_earlier, any_cases}
use Rattle.ts_laws.proofs.Runs.{Allowed, along, all_released, IsRun, IsRun-from_legal}
use Rattle.ts_exec.proofs.Steps.{not_some}

somewhere : State
somewhere = record { first = λ _. Absent; second = λ _. Absent; archive = λ _. Absent }

pub is_run : (s : Snapshot) (plan : Plan) → Valid s plan → (r : Run) → Legal s plan r → IsRun plan r
is_run s plan valid r legal = IsRun-from_legal s plan valid somewhere r legal

-- the beginning of a legal run is legal
pub legal_front : (s : Snapshot) (plan : Plan) (past xs ys : Run) → LegalFrom s plan past (xs ++ ys) → LegalFrom s plan past xs
legal_front s plan past [] ys l = tt
legal_front s plan past (x ∷ xs) ys l = (l.0, l.1, legal_front s plan (past ++ x ∷ []) xs ys l.2)

-- the last step was allowed
pub last_allowed : (s : Snapshot) (plan : Plan) (past xs : Run) (x : Step) → LegalFrom s plan past (xs ++ x ∷ []) → WordsAllow plan (past ++ xs) x
last_allowed s plan past [] x l = subst (λ (h : Run). WordsAllow plan h x) (sym (append-nil past)) l.0
last_allowed s plan past (y ∷ ys) x l = subst (λ (h : Run). WordsAllow plan h x) (append_assoc past (y ∷ []) ys) (last_allowed s plan (past ++ y ∷ []) ys x l.2)

-- what failed was claimed, and what was taken is done
pub record IsBacked (r : Run) : Type 0 where
  pub failed : (i : ℕ) → Has r (fails i) → Has r (claims i)
  pub taken : (k : ℕ) → Has r (takes k) → Has r (finishes k)

fail_is : (i : ℕ) (step : Step) → fails i step ≡ true → step ≡ Fail i
fail_is i (Fail j) e = ap Fail (sym (eqb-true i j e))
fail_is i _ e = cc

pub take_is : (k : ℕ) (step : Step) → takes k step ≡ true → (c : ℕ) × (step ≡ Take c k)
take_is k (Take c j) e = (c, ap (Take c) (sym (eqb-true k j e)))
take_is k _ e = absurd (true≢false (sym e))

backed_next : (s : Snapshot) (plan : Plan) (r : Run) (step : Step) → IsBacked r → Allowed s plan r step → IsBacked (r ++ step ∷ [])
backed_next s plan r step b al = record {
  failed = λ i h. any_earlier (claims i) r step (elim (any_cases (fails i) r step h) [
    | inl earlier ↦ b.failed i earlier
    | inr now ↦ (let a : Allowed s plan r (Fail i) = subst (λ z. Allowed s plan r z) (fail_is i step now) al in a.0.0)
  ]);
  taken = λ k h. any_earlier (finishes k) r step (elim (any_cases (takes k) r step h) [
    | inl earlier ↦ b.taken k earlier
    | inr now ↦ (let t = take_is k step now in let a : Allowed s plan r (Take t.0 k) = subst (λ z. Allowed s plan r z) t.1 al in a.0.2)
  ]);
}

pub is_backed : (s : Snapshot) (plan : Plan) (r : Run) → Legal s plan r → IsBacked r
is_backed s plan r legal = along s plan (λ z _. IsBacked z) (λ z _ step b al. backed_next s plan z step b al) [] somewhere r (record { failed = λ i h. absurd (true≢false (sym h)); taken = λ k h. absurd (true≢false (sym h)) }) legal

-- an unclaimed action has nothing but open predecessors in its word
pub unclaimed_word : (s : Snapshot) (plan : Plan) → Valid s plan → (r : Run) → Legal s plan r → (i : ℕ) → HasNot r (claims i) → word_after plan r i ≡ open_count plan r i
unclaimed_word s plan valid r legal i none =
    let run = is_run s plan valid r legal in
    let backed = is_backed s plan r legal in
    let no_act : HasNot r (acts i) = not_some (list_any (acts i) r) (λ h. absurd (true≢false (sym (run.ordered.acted i h) ∙ none))) in
    let no_end : HasNot r (finishes i) = not_some (list_any (finishes i) r) (λ h. absurd (true≢false (sym (run.ordered.finished i h) ∙ no_act))) in
    let no_fail : HasNot r (fails i) = not_some (list_any (fails i) r) (λ h. absurd (true≢false (sym (backed.failed i h) ∙ none))) in
    let no_take : HasNot r (takes i) = not_some (list_any (takes i) r) (λ h. absurd (true≢false (sym (backed.taken i h) ∙ no_end))) in
    rw (none, no_end, no_fail, no_take) (omega arith)

-- where each predecessor has released it, an unclaimed action's word is 0
pub free_word : (s : Snapshot) (plan : Plan) → Valid s plan → (r : Run) → Legal s plan r → (i : ℕ) → IsAction plan i → HasNot r (claims i) → ((k : ℕ) → Waits plan i k → Has r (releases k i)) → word_after plan r i ≡ 0
free_word s plan valid r legal i action none released =
    unclaimed_word s plan valid r legal i none
    ∙ all_released plan r i action.0 (is_run s plan valid r legal).counted action.1 (λ k among. released k (action.0, action.1, Contains-from_Among action.0.preds k among))
