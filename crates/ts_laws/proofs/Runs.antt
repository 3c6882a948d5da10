-- Legal runs: what each action that was claimed, worked on and done has behind it.
use Rattle.std.proofs.Common.{◌≡◌, ◌⊎◌, ℕ, ◌+◌, ◌<◌, Bool, true, false, not, ◌==◌, cond, List, [], ◌∷◌, ◌++◌, length, Some, None, count_by, sym, refl, ap, ◌∙◌, subst, inl, inr, append_assoc, append-nil, arith, eqb-true, eq-eqb}
use Rattle.std.specs.List.{list_any}
use Rattle.std.proofs.lemmas.Bool.{true≢false, and_parts, and_from, ne_eqb, and_left, and_right, cases_eq, not-false, false_from_ne_true}
use Rattle.std.proofs.lemmas.List.Sums.{sum_by_push}
use Rattle.std.proofs.lemmas.Option.{slice_get_within}
use Rattle.ts_model.specs.Sync.{Snapshot}
use Rattle.ts_model.specs.Plans.{ActionIs, Waits, AscendBelow, Valid}
use Rattle.ts_model.specs.declared.plan.PlanRule.TheVariants.{PredsAscend}
use Rattle.ts_model.specs.Runs.{Run, claims, acts, finishes, releases, releases_to, Has, HasNot, pred_count, open_count, WordsAllow, Fits, IsPending, LegalFrom, Legal, State, after, after_step}
use Rattle.ts_model.specs.Headline.{IsQuiescent, AllDone}
use Rattle.ts_model.specs.declared.row.Content.TheVariants.{Absent}
use Rattle.ts_model.specs.declared.step.Step.{Step}
use Rattle.ts_model.specs.declared.step.Step.TheVariants.{Claim, Act, Done, Release}
use Rattle.ts_model.specs.declared.plan.Action.{Action}
use Rattle.ts_model.specs.declared.plan.Plan.{Plan}
use Rattle.ts_laws.proofs.Basics.{stable}
use Rattle.ts_laws.proofs.Lists.{any_earlier, any_last, any_cases, any_without_last, Among, Among-from_Contains, decide_ascend, count_same, count_drops, none_counted, counted_none, weight, count_cons, least_failing, below_bound, Contains-from_Among}
use Rattle.ts_name.proofs.Basics.{same_at, element_at}

-- a step that the words allow, and that fits its action
abbrev pub Allowed : Snapshot → Plan → Run → Step → Type 0
Allowed s plan r step = WordsAllow plan r step × Fits s plan step

-- ---- induction along a legal run

-- what each allowed step keeps holds after the run
pub along : (s : Snapshot) (plan : Plan) (P : Run → State → Type 0)
    → ((r : Run) (w : State) (step : Step) → P r w → Allowed s plan r step → P (r ++ step ∷ []) (after_step s plan w step))
    → (r : Run) (w : State) (steps : Run) → P r w → LegalFrom s plan r steps → P (r ++ steps) (after s plan w steps)
along s plan P next r w [] start legal = subst (λ z. P z w) (sym (append-nil r)) start
along s plan P next r w (step ∷ steps) start legal =
    subst (λ z. P z (after s plan (after_step s plan w step) steps)) (append_assoc r (step ∷ []) steps)
    (along s plan P next (r ++ step ∷ []) (after_step s plan w step) steps (next r w step start (legal.0, legal.1)) legal.2)

-- ---- predecessors

-- one number has one action
pub same_action : (plan : Plan) (i : ℕ) (x y : Action) → ActionIs plan i x → ActionIs plan i y → x ≡ y
same_action plan i x y = same_at plan.actions i x y

-- predecessors ascend, below the action
pub preds_ascend : (s : Snapshot) (plan : Plan) → Valid s plan → (i : ℕ) (action : Action) → ActionIs plan i action → AscendBelow i action.preds
preds_ascend s plan valid i action is = stable (decide_ascend i action.preds) (λ n. valid PredsAscend i (action, is, n))

-- their count
pub pred_count_is : (plan : Plan) (i : ℕ) (action : Action) → ActionIs plan i action → pred_count plan i ≡ length action.preds
pred_count_is plan i action is = ap (λ o. elim o [ None ↦ 0 | Some a ↦ length a.preds ]) is

-- the predecessor j of i isn't released
abbrev pub unreleased : Run → ℕ → ℕ → Bool
unreleased r i j = not (list_any (releases j i) r)

-- how many weren't released
abbrev pub unreleased_count : Run → ℕ → List ℕ → ℕ
unreleased_count r i js = count_by (unreleased r i) js

-- a test that all pass counts each
pub all_counted : (f : ℕ → Bool) (js : List ℕ) → ((j : ℕ) → f j ≡ true) → count_by f js ≡ length js
all_counted f [] h = refl
all_counted f (j ∷ js) h =
    let first : weight (f j) ≡ 1 = ap weight (h j) in
    let rest = all_counted f js h in
    omega (arith, count_cons f j js)

-- releases so far, and predecessors that aren't released, make up the predecessors
pub record IsCounted (plan : Plan) (r : Run) : Type 0 where
  pub whole : (i : ℕ) (action : Action) → ActionIs plan i action → count_by (releases_to i) r + unreleased_count r i action.preds ≡ length action.preds

-- a count after one more step
pub count_push : (test : Step → Bool) (r : Run) (step : Step) → count_by test (r ++ step ∷ []) ≡ count_by test r + weight (test step)
count_push test r step = sum_by_push (λ x. cond (test x) 1 0) r step

-- a step that releases nothing to i
pub counted_quiet : (r : Run) (step : Step) (i : ℕ) (js : List ℕ) → releases_to i step ≡ false → ((j : ℕ) → releases j i step ≡ false)
    → count_by (releases_to i) r + unreleased_count r i js ≡ length js
    → count_by (releases_to i) (r ++ step ∷ []) + unreleased_count (r ++ step ∷ []) i js ≡ length js
counted_quiet r step i js quiet each before =
    let none : weight (releases_to i step) ≡ 0 = ap weight quiet in
    let same = count_same (unreleased (r ++ step ∷ []) i) (unreleased r i) js (λ j among. ap not (any_without_last (releases j i) r step (each j))) in
    omega (arith, count_push (releases_to i) r step)

-- a release to i
pub counted_release : (n : ℕ) (r : Run) (k i : ℕ) (js : List ℕ) → AscendBelow n js → Among k js → HasNot r (releases k i)
    → count_by (releases_to i) r + unreleased_count r i js ≡ length js
    → count_by (releases_to i) (r ++ Release k i ∷ []) + unreleased_count (r ++ Release k i ∷ []) i js ≡ length js
counted_release n r k i js ascend among fresh before =
    let one : weight (releases_to i (Release k i)) ≡ 1 = ap weight (eq-eqb i i refl) in
    let dropped = count_drops n (unreleased r i) (unreleased (r ++ Release k i ∷ []) i) k js ascend among (ap not fresh)
    (ap not (any_last (releases k i) r (Release k i) (and_from (k == k) (i == i) (eq-eqb k k refl) (eq-eqb i i refl))))
    (λ j differ. ap not (sym (any_without_last (releases j i) r (Release k i) (and_left (j == k) (i == i) (ne_eqb j k differ))))) in
    omega (arith, count_push (releases_to i) r (Release k i))

-- the sum stays right after an allowed step
pub counted_next : (s : Snapshot) (plan : Plan) → Valid s plan → (r : Run) (step : Step) → IsCounted plan r → Allowed s plan r step → IsCounted plan (r ++ step ∷ [])
counted_next s plan valid r (Release k l) counted allowed = record { whole = λ i action is. go i action is (cases_eq i l) }
  where
    go : (i : ℕ) (action : Action) → ActionIs plan i action → (i ≡ l) ⊎ (i ≡ l → ⊥)
        → count_by (releases_to i) (r ++ Release k l ∷ []) + unreleased_count (r ++ Release k l ∷ []) i action.preds ≡ length action.preds
    go i action is (inr differ) =
        counted_quiet r (Release k l) i action.preds (ne_eqb i l differ) (λ j. and_right (j == k) (i == l) (ne_eqb i l differ)) (counted.whole i action is)
    go i action is (inl e) =
        let waits = allowed.0.1 in
        let same : waits.0 ≡ action = same_action plan l waits.0 action waits.1 (subst (λ z. ActionIs plan z action) e is) in
        let among = subst (λ z. Among k z.preds) same (Among-from_Contains waits.0.preds k waits.2) in
        subst (λ z. count_by (releases_to i) (r ++ Release k z ∷ []) + unreleased_count (r ++ Release k z ∷ []) i action.preds ≡ length action.preds) e
        (counted_release i r k i action.preds (preds_ascend s plan valid i action is) among (subst (λ z. HasNot r (releases k z)) (sym e) allowed.0.2) (counted.whole i action is))
counted_next s plan valid r step counted allowed =
    record { whole = λ i action is. counted_quiet r step i action.preds refl (λ j. refl) (counted.whole i action is) }

-- and is right before the run
pub counted_start : (plan : Plan) → IsCounted plan []
counted_start plan = record {
  whole = λ i action is.
      let all : count_by (unreleased [] i) action.preds ≡ length action.preds = all_counted (unreleased [] i) action.preds (λ j. refl) in omega arith;
}

-- an action with no open predecessor has had each of them released
pub none_open : (plan : Plan) (r : Run) (i : ℕ) (action : Action) → IsCounted plan r → ActionIs plan i action → open_count plan r i ≡ 0
    → (j : ℕ) → Among j action.preds → Has r (releases j i)
none_open plan r i action counted is closed j among =
    let preds = pred_count_is plan i action is in
    let whole = counted.whole i action is in
    let unreleased_none = none_counted (unreleased r i) action.preds (omega arith) j among in
    not-false _ unreleased_none

-- where each is released, none is open
pub all_released : (plan : Plan) (r : Run) (i : ℕ) (action : Action) → IsCounted plan r → ActionIs plan i action
    → ((j : ℕ) → Among j action.preds → Has r (releases j i)) → open_count plan r i ≡ 0
all_released plan r i action counted is released =
    let preds = pred_count_is plan i action is in
    let whole = counted.whole i action is in
    let none = counted_none (unreleased r i) action.preds (λ j among. ap not (released j among)) in
    omega arith

-- ---- what stands behind a step

-- which step claims i
pub claim_is : (i : ℕ) (step : Step) → claims i step ≡ true → step ≡ Claim i
claim_is i (Claim j) e = ap Claim (sym (eqb-true i j e))
claim_is i _ e = cc

-- which step finishes it
pub finish_is : (i : ℕ) (step : Step) → finishes i step ≡ true → step ≡ Done i
finish_is i (Done j) e = ap Done (sym (eqb-true i j e))
finish_is i _ e = cc

-- which step releases i to j
pub release_is : (i j : ℕ) (step : Step) → releases i j step ≡ true → step ≡ Release i j
release_is i j (Release k l) e =
    let parts = and_parts (i == k) (j == l) e in
    let first = eqb-true i k parts.0 in
    let second = eqb-true j l parts.1 in cc
release_is i j _ e = cc

-- an act is of a pending action
pub act_ready : (s : Snapshot) (plan : Plan) (r : Run) (i : ℕ) (step : Step) → acts i step ≡ true → Allowed s plan r step → IsPending r i
act_ready s plan r i (Act j work) e allowed = subst (λ z. IsPending r z) (sym (eqb-true i j e)) allowed.0.0
act_ready s plan r i _ e allowed = cc

-- what each step has behind it
pub record IsOrdered (plan : Plan) (r : Run) : Type 0 where
  pub claimed : (i j : ℕ) → Has r (claims i) → Waits plan i j → Has r (finishes j)
  pub acted : (i : ℕ) → Has r (acts i) → Has r (claims i)
  pub finished : (i : ℕ) → Has r (finishes i) → Has r (acts i)
  pub released : (i j : ℕ) → Has r (releases i j) → Has r (finishes i)

-- before the run
pub ordered_start : (plan : Plan) → IsOrdered plan []
ordered_start plan = record { claimed = λ i j h w. cc; acted = λ i h. cc; finished = λ i h. cc; released = λ i j h. cc }

-- and after an allowed step
pub ordered_next : (s : Snapshot) (plan : Plan) (r : Run) (step : Step) → IsCounted plan r → IsOrdered plan r → Allowed s plan r step → IsOrdered plan (r ++ step ∷ [])
ordered_next s plan r step counted ordered allowed = record {
  claimed = λ i j h waits. any_earlier (finishes j) r step (claimed i j waits (any_cases (claims i) r step h));
  acted = λ i h. any_earlier (claims i) r step (elim (any_cases (acts i) r step h) [
    | inl earlier ↦ ordered.acted i earlier
    | inr now ↦ (act_ready s plan r i step now allowed).0
  ]);
  finished = λ i h. any_earlier (acts i) r step (elim (any_cases (finishes i) r step h) [
    | inl earlier ↦ ordered.finished i earlier
    | inr now ↦ (let a : Allowed s plan r (Done i) = subst (λ z. Allowed s plan r z) (finish_is i step now) allowed in a.0.0)
  ]);
  released = λ i j h. any_earlier (finishes i) r step (elim (any_cases (releases i j) r step h) [
    | inl earlier ↦ ordered.released i j earlier
    | inr now ↦ (let a : Allowed s plan r (Release i j) = subst (λ z. Allowed s plan r z) (release_is i j step now) allowed in a.0.0)
  ]);
}
  where
    claimed : (i j : ℕ) → Waits plan i j → Has r (claims i) ⊎ (claims i step ≡ true) → Has r (finishes j)
    claimed i j waits (inl earlier) = ordered.claimed i j earlier waits
    claimed i j waits (inr now) =
        let a : Allowed s plan r (Claim i) = subst (λ z. Allowed s plan r z) (claim_is i step now) allowed in
        ordered.released j i (none_open plan r i waits.0 counted waits.1 a.0.2 j (Among-from_Contains waits.0.preds j waits.2))

-- what each legal run has
pub record IsRun (plan : Plan) (r : Run) : Type 0 where
  pub counted : IsCounted plan r
  pub ordered : IsOrdered plan r

-- before the run
pub run_start : (plan : Plan) → IsRun plan []
run_start plan = record { counted = counted_start plan; ordered = ordered_start plan }

-- and after an allowed step
pub run_next : (s : Snapshot) (plan : Plan) → Valid s plan → (r : Run) (step : Step) → IsRun plan r → Allowed s plan r step → IsRun plan (r ++ step ∷ [])
run_next s plan valid r step run allowed =
    record { counted = counted_next s plan valid r step run.counted allowed; ordered = ordered_next s plan r step run.counted run.ordered allowed }

-- a legal run has all of this
pub IsRun-from_legal : (s : Snapshot) (plan : Plan) → Valid s plan → (w : State) (r : Run) → Legal s plan r → IsRun plan r
IsRun-from_legal s plan valid w r legal = along s plan (λ z _. IsRun plan z) (λ z _ step run allowed. run_next s plan valid z step run allowed) [] w r (run_start plan) legal

-- what a claimed action waits for has acted
pub waited_for : (plan : Plan) (r : Run) (i j : ℕ) → IsRun plan r → Has r (claims i) → Waits plan i j → Has r (acts j)
waited_for plan r i j run claimed waits = run.ordered.finished j (run.ordered.claimed i j claimed waits)

-- ---- no legal run gets stuck

-- all is done, or the first action that is not may be claimed
pub not_stuck : (s : Snapshot) (plan : Plan) → Valid s plan → (r : Run) → Legal s plan r → IsQuiescent plan r → AllDone plan r ⊎ ((i : ℕ) × WordsAllow plan r (Claim i))
not_stuck s plan valid r legal quiet = elim (least_failing (λ i. list_any (finishes i) r) (length plan.actions)) [
  | inl all ↦ inl (λ i is. all i (slice_get_within plan.actions i is.0 is.1))
  | inr found ↦ inr (found.0, next found.0 found.1 found.2 found.3)
]
  where
    somewhere : State
    somewhere = record { first = λ _. Absent; second = λ _. Absent; archive = λ _. Absent }

    next : (i : ℕ) → i < length plan.actions → HasNot r (finishes i) → ((j : ℕ) → j < i → Has r (finishes j)) → WordsAllow plan r (Claim i)
    next i within unfinished before =
        let action = element_at plan.actions i within in
        let unclaimed : HasNot r (claims i) = false_from_ne_true _ (λ claimed. true≢false (sym (quiet.no_claim_left i claimed) ∙ unfinished)) in
        let released = λ (j : ℕ) (among : Among j action.0.preds).
        quiet.no_release_left j i (before j (below_bound i action.0.preds j (preds_ascend s plan valid i action.0 action.1) among))
        (action.0, action.1, Contains-from_Among action.0.preds j among) in
        ((action.0, action.1), unclaimed, all_released plan r i action.0 (IsRun-from_legal s plan valid somewhere r legal).counted action.1 released)
