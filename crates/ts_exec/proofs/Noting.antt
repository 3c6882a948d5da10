-- Failures are listed and noted.
use Rattle.std.proofs.Common.{◌≡◌, ◌≢◌, ◌⊎◌, ℕ, zero, suc, ◌+◌, ◌<◌, ◌≤◌, List, [], ◌∷◌, ◌++◌, length, take, set, Option, Some, None, slice_get, sym, refl, ap, ◌∙◌, subst, inl, inr, ⊎_elim, arith, add-one, append-nil, append_assoc, Bool}
use Rattle.std.specs.Prelude.{slice_index_or}
use Rattle.std.proofs.lemmas.Bool.{true≢false, cases_eq, cases_lt}
use Rattle.ts_model.specs.Sync.{Snapshot}
use Rattle.ts_model.specs.Plans.{Valid, Waits}
use Rattle.ts_model.specs.Runs.{Run, Has, claims, fails, finishes, releases, word_after}
use Rattle.ts_model.specs.declared.plan.Plan.{Plan}
use Rattle.ts_model.specs.declared.step.Step.{Step}
use Rattle.ts_laws.proofs.Lists.{Among-from_Contains, below_bound}
use Rattle.ts_laws.proofs.Runs.{preds_ascend}
use Rattle.ts_check.proofs.Scans.{got_set, got_beside}
use Rattle.ts_board.specs.Runs.{StartsWith}
use Rattle.ts_exec.specs.Failures.{Setting, AreTold, IsToldStep, MayFail}
use Rattle.ts_exec.specs.Tidy.{HasFault, IsListed, IsTidy, IsTry, Listed, MayBe, Noted, Swept, WasTried}
use Rattle.ts_exec.specs.declared.crew.Failure.{Failure}
use Rattle.ts_exec.specs.declared.fault.ActFault.{ActFault}
use Rattle.ts_name.proofs.Utf8.{all_append}
use Rattle.ts_exec.proofs.Reading.{may_later, told_later}
use Rattle.ts_exec.proofs.Steps.{has_cases}
use Rattle.ts_name.proofs.Basics.{got_last, got_front}
use Rattle.ts_laws.proofs.Cuts.{any_in_longer}

-- ---- places of lists

pub got_cases : {A : Type 0} (xs : List A) (x : A) (m : ℕ) (e : A) → slice_get (xs ++ x ∷ []) m ≡ Some e → (slice_get xs m ≡ Some e) ⊎ (x ≡ e)
got_cases [] x zero e h = inr (cc)
got_cases [] x (suc m) e h = absurd (cc)
got_cases (y ∷ ys) x zero e h = inl h
got_cases (y ∷ ys) x (suc m) e h = got_cases ys x m e h

pub got_index : {A : Type 0} (xs : List A) (n : ℕ) (d : A) → n < length xs → slice_get xs n ≡ Some (slice_index_or xs n d)
got_index [] n d h = absurd (omega arith)
got_index (x ∷ xs) zero d h = refl
got_index (x ∷ xs) (suc n) d h = got_index xs n d (omega arith)

take_got : {A : Type 0} (n m : ℕ) (xs : List A) (e : A) → slice_get (take (suc n) xs) m ≡ Some e → (slice_get (take n xs) m ≡ Some e) ⊎ (slice_get xs n ≡ Some e)
take_got n m [] e h = absurd (cc)
take_got zero zero (x ∷ xs) e h = inr h
take_got zero (suc m) (x ∷ xs) e h = absurd (cc)
take_got (suc n) zero (x ∷ xs) e h = inl h
take_got (suc n) (suc m) (x ∷ xs) e h = take_got n m xs e h

-- ---- lists of failures

pub may_be_later : (x : Setting) (seen more : Run) (fs : List Failure) → StartsWith more seen → MayBe x seen fs → MayBe x more fs
may_be_later x seen more fs later may m e at = let h = may m e at in (h.0, may_later x seen more later e.action e.fault h.1)

pub listed_failed : (x : Setting) (own seen more b : Run) (fs : List Failure) (i : ℕ) (f : ActFault) → Listed x own seen fs → StartsWith more seen → IsTry x.checkup.plan i (Some f) b → AreTold x more b → MayFail x more i f
    → i < length x.checkup.plan.actions → Listed x (own ++ b) more (fs ++ record { action = i; fault = f } ∷ [])
listed_failed x own seen more b fs i f l later t told may within = record {
  each = λ j h. ⊎_elim
      (λ (a : Has own (fails j)). let e = l.each j a in (e.0, e.1, got_front fs (record { action = i; fault = f } ∷ []) e.0 e.1 e.2, e.3))
      (λ (a : Has b (fails j)). (length fs, record { action = i; fault = f }, got_last fs (record { action = i; fault = f }), sym (t.failed j a).0))
      (has_cases (fails j) own b h);
  may = λ m e at. ⊎_elim
      (λ (a : slice_get fs m ≡ Some e). may_be_later x seen more fs later l.may m e a)
      (λ (a : record { action = i; fault = f } ≡ e). subst (λ (z : Failure). (z.action < length x.checkup.plan.actions) × MayFail x more z.action z.fault) a (within, may))
      (got_cases fs (record { action = i; fault = f }) m e at);
  told = all_append (IsToldStep x more) own b (told_later x seen more later own l.told) told;
}

pub listed_none : (x : Setting) (own seen more b : Run) (fs : List Failure) (i : ℕ) → Listed x own seen fs → StartsWith more seen → IsTry x.checkup.plan i None b → AreTold x more b → Listed x (own ++ b) more fs
listed_none x own seen more b fs i l later t told = record {
  each = λ j h. ⊎_elim (λ (a : Has own (fails j)). l.each j a) (λ (a : Has b (fails j)). absurd (true≢false (sym (t.failed j a).1))) (has_cases (fails j) own b h);
  may = may_be_later x seen more fs later l.may;
  told = all_append (IsToldStep x more) own b (told_later x seen more later own l.told) told;
}

-- ---- faults by place

pub fault_later : (x : Setting) (seen more : Run) (faults : List (Option ActFault)) (i : ℕ) → StartsWith more seen → HasFault x seen faults i → HasFault x more faults i
fault_later x seen more faults i later h = (h.0, h.1, may_later x seen more later i h.0 h.2)

pub fault_kept : (x : Setting) (r : Run) (faults : List (Option ActFault)) (a : ℕ) (f : ActFault) → a < length faults → MayFail x r a f → (i : ℕ) → HasFault x r faults i → HasFault x r (set faults a (Some f)) i
fault_kept x r faults a f within may i h = ⊎_elim
    (λ (e : i ≡ a). subst (λ (z : ℕ). HasFault x r (set faults a (Some f)) z) (sym e) (f, got_set faults a (Some f) within, may))
    (λ (e : i ≢ a). (h.0, got_beside faults a i (Some f) e ∙ h.1, h.2))
    (cases_eq i a)

pub fault_here : (x : Setting) (r : Run) (faults : List (Option ActFault)) (a : ℕ) (f : ActFault) → a < length faults → MayFail x r a f → HasFault x r (set faults a (Some f)) a
fault_here x r faults a f within may = (f, got_set faults a (Some f) within, may)

pub noted_failed : (x : Setting) (own seen more b : Run) (faults : List (Option ActFault)) (i : ℕ) (f : ActFault) → Noted x own seen faults → StartsWith more seen → IsTry x.checkup.plan i (Some f) b → AreTold x more b
    → MayFail x more i f → i < length faults → Noted x (own ++ b) more (set faults i (Some f))
noted_failed x own seen more b faults i f l later t told may within = record {
  each = λ j h. ⊎_elim
      (λ (a : Has own (fails j)). fault_kept x more faults i f within may j (fault_later x seen more faults j later (l.each j a)))
      (λ (a : Has b (fails j)). subst (λ (z : ℕ). HasFault x more (set faults i (Some f)) z) (sym (t.failed j a).0) (fault_here x more faults i f within may))
      (has_cases (fails j) own b h);
  told = all_append (IsToldStep x more) own b (told_later x seen more later own l.told) told;
}

-- what is noted still is when more was seen
pub noted_later : (x : Setting) (own seen more : Run) (faults : List (Option ActFault)) → Noted x own seen faults → StartsWith more seen → Noted x own more faults
noted_later x own seen more faults l later = record {
  each = λ j h. fault_later x seen more faults j later (l.each j h);
  told = told_later x seen more later own l.told;
}

pub noted_none : (x : Setting) (own seen more b : Run) (faults : List (Option ActFault)) (i : ℕ) → Noted x own seen faults → StartsWith more seen → IsTry x.checkup.plan i None b → AreTold x more b → Noted x (own ++ b) more faults
noted_none x own seen more b faults i l later t told = record {
  each = λ j h. ⊎_elim
      (λ (a : Has own (fails j)). fault_later x seen more faults j later (l.each j a))
      (λ (a : Has b (fails j)). absurd (true≢false (sym (t.failed j a).1)))
      (has_cases (fails j) own b h);
  told = all_append (IsToldStep x more) own b (told_later x seen more later own l.told) told;
}

-- one more failure is noted
pub noted_more : (x : Setting) (r : Run) (faults : List (Option ActFault)) (fs : List Failure) (n : ℕ) (e : Failure) → slice_get fs n ≡ Some e → e.action < length faults → MayFail x r e.action e.fault
    → ((i : ℕ) → IsListed i (take n fs) → HasFault x r faults i) → (i : ℕ) → IsListed i (take (n + 1) fs) → HasFault x r (set faults e.action (Some e.fault)) i
noted_more x r faults fs n e is within may before i h = ⊎_elim
    (λ (a : slice_get (take n fs) h.0 ≡ Some h.1). fault_kept x r faults e.action e.fault within may i (before i (h.0, h.1, a, h.3)))
    (λ (a : slice_get fs n ≡ Some h.1).
    let some : Some e ≡ Some h.1 = sym is ∙ a in
    let same : e ≡ h.1 = cc in
    subst (λ (z : ℕ). HasFault x r (set faults e.action (Some e.fault)) z) (ap (λ (z : Failure). z.action) same ∙ h.3) (fault_here x r faults e.action e.fault within may))
    (take_got n h.0 fs h.1 (subst (λ (z : ℕ). slice_get (take z fs) h.0 ≡ Some h.1) (add-one n) h.2))

-- ---- the sweep

waits_below : (s : Snapshot) (plan : Plan) → Valid s plan → (j k : ℕ) → Waits plan j k → k < j
waits_below s plan valid j k w = below_bound j w.0.preds k (preds_ascend s plan valid j w.0 w.1) (Among-from_Contains w.0.preds k w.2)

pub swept_more : (s : Snapshot) (plan : Plan) → Valid s plan → (n : ℕ) (own seen own' seen' b : Run) → IsTidy plan own' → own' ≡ own ++ b → StartsWith seen' seen → ((k : ℕ) → Has b (finishes k) → k ≡ n)
    → ((t : Step → Bool) → Has own' t → Has seen' t)
    → Has own' (claims n) ⊎ ((own' ≡ own) × (word_after plan seen' n ≢ 0)) → Swept plan n own seen → Swept plan (n + 1) own' seen'
swept_more s plan valid n own seen own' seen' b tidy is later only within tried before = λ j less. ⊎_elim (λ (l : j < n). old j l (before j l)) (λ (l : n ≤ j). let same : n ≡ j = omega arith in subst (λ (z : ℕ). WasTried plan own' seen' z) same now) (cases_lt j n)
  where
    now : WasTried plan own' seen' n
    now = ⊎_elim (λ (h : Has own' (claims n)). inl h)
        (λ (h : (own' ≡ own) × (word_after plan seen' n ≢ 0)). inr (seen', ([], sym (append-nil seen')), h.1, λ k waits done. within (releases k n) (tidy.released k n done waits)))
        tried

    old : (j : ℕ) → j < n → WasTried plan own seen j → WasTried plan own' seen' j
    old j l (inl h) = inl (subst (λ (z : Run). Has z (claims j)) (sym is) (any_in_longer (claims j) own b h))
    old j l (inr w) = inr (
      w.0,
      (w.1.0 ++ later.0, later.1 ∙ ap (λ (z : Run). z ++ later.0) w.1.1 ∙ append_assoc w.0 w.1.0 later.0),
      w.2,
      λ k waits done. w.3 k waits (⊎_elim
          (λ (a : Has own (finishes k)). a)
          (λ (a : Has b (finishes k)). let at = only k a in let below = waits_below s plan valid j k waits in absurd (omega arith))
          (has_cases (finishes k) own b (subst (λ (z : Run). Has z (finishes k)) is done))),
    )
