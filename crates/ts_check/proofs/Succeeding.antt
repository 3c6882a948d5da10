-- The actions that wait for each action.
use Rattle.std.proofs.Common.{◌≡◌, ◌≢◌, ◌⊎◌, ℕ, zero, suc, ◌+◌, ◌<◌, ◌≤◌, ◌==◌, List, [], ◌∷◌, ◌++◌, length, get_or, drop, map, Contains, Some, Result, Ok, Err, IfOk, slice_get, sym, refl, ap, ◌∙◌, subst, inl, inr, arith}
use Rattle.std.specs.List.{filter, All, sum_by}
use Rattle.std.proofs.lemmas.Bool.{cases_eq, eq-eqb, ne_eqb}
use Rattle.std.proofs.lemmas.List.{map-append, append_assoc, drop_more, length-append}
use Rattle.std.proofs.lemmas.List.Sums.{sum_by-cons}
use Rattle.std.proofs.lemmas.List.Elements.{filter-append, Contains-append_cases, Contains-append_left, Contains-append_right, All-append, All-cons, All-contains, All-map, All-weaker}
use Rattle.std.proofs.lemmas.Option.{none-some, same_Some, slice_get_within}
use Rattle.ts_model.specs.Plans.{AscendBelow}
use Rattle.ts_model.specs.declared.plan.Action.{Action}
use Rattle.ts_model.specs.declared.plan.Plan.{Plan}
use Rattle.ts_check.proofs.Waits.{ascending_preds, below_from, from_below}
use Rattle.ts_check.specs.Lists.{at_key, AreKeysBelow}
use Rattle.ts_check.specs.Waiting.{AscendFrom, HasBadPreds, waits_from, AreSuccessors, AreAllSuccessors}

-- ---- lists

pub contains_cons : {X : Type 0} (x : X) (xs : List X) (y : X) → Contains (x ∷ xs) y → (x ≡ y) ⊎ Contains xs y
contains_cons {X} x xs y h = go h.0 h.1 h.2
  where
    go : (k : ℕ) → k < length (x ∷ xs) → get_or (x ∷ xs) k y ≡ y → (x ≡ y) ⊎ Contains xs y
    go zero less e = inl e
    go (suc k) less e = inr (k, omega arith, e)

pub contains_tail : {X : Type 0} (x : X) (xs : List X) (y : X) → Contains xs y → Contains (x ∷ xs) y
contains_tail x xs y h = (suc h.0, let less = h.1 in omega arith, h.2)

pub contains_none : {X : Type 0} (y : X) → ¬ Contains [] y
contains_none y h = let less = h.1 in omega arith

pub at_key-append : (k : ℕ) (xs ys : List (ℕ × ℕ)) → at_key k (xs ++ ys) ≡ at_key k xs ++ at_key k ys
at_key-append k xs ys = ap (map (λ (p : ℕ × ℕ). p.1)) (filter-append (λ (p : ℕ × ℕ). p.0 == k) xs ys) ∙ map-append (λ (p : ℕ × ℕ). p.1) (filter (λ (p : ℕ × ℕ). p.0 == k) xs) (filter (λ (p : ℕ × ℕ). p.0 == k) ys)

pub at_key-yes : (k x y : ℕ) (ps : List (ℕ × ℕ)) → x ≡ k → at_key k ((x, y) ∷ ps) ≡ y ∷ at_key k ps
at_key-yes k x y ps e = rw (eq-eqb x k e) refl

pub at_key-no : (k x y : ℕ) (ps : List (ℕ × ℕ)) → x ≢ k → at_key k ((x, y) ∷ ps) ≡ at_key k ps
at_key-no k x y ps differ = rw (ne_eqb x k differ) refl

-- ---- the predecessors of one action

abbrev beside : ℕ → List ℕ → List (ℕ × ℕ)
beside n preds = map (λ j. (j, n)) preds

from_preds : (i n : ℕ) (preds : List ℕ) (j : ℕ) → Contains (at_key i (beside n preds)) j → (j ≡ n) × Contains preds i
from_preds i n [] j h = absurd (contains_none j h)
from_preds i n (x ∷ xs) j h = elim (cases_eq x i) [
  | inl same ↦ (
      let h' : Contains (n ∷ at_key i (beside n xs)) j = subst (λ (z : List ℕ). Contains z j) (at_key-yes i x n (beside n xs) same) h in
      (elim (contains_cons n (at_key i (beside n xs)) j h') [ inl e ↦ sym e | inr more ↦ (from_preds i n xs j more).0 ], (0, omega arith, same)))
  | inr differ ↦ (
      let more = from_preds i n xs j (subst (λ (z : List ℕ). Contains z j) (at_key-no i x n (beside n xs) differ) h) in
      (more.0, contains_tail x xs i more.1))
]

to_preds : (i n : ℕ) (preds : List ℕ) → Contains preds i → Contains (at_key i (beside n preds)) n
to_preds i n [] h = absurd (contains_none i h)
to_preds i n (x ∷ xs) h = elim (cases_eq x i) [
  | inl same ↦ subst (λ (z : List ℕ). Contains z n) (sym (at_key-yes i x n (beside n xs) same)) (0, omega arith, refl)
  | inr differ ↦ subst (λ (z : List ℕ). Contains z n) (sym (at_key-no i x n (beside n xs) differ)) (to_preds i n xs (elim (contains_cons x xs i h) [ inl same ↦ absurd (differ same) | inr more ↦ more ]))
]

none_after : (i n low m : ℕ) (preds : List ℕ) → AscendFrom low m preds → i < low → at_key i (beside n preds) ≡ []
none_after i n low m [] h less = refl
none_after i n low m (x ∷ xs) h less = let le = h.0 in at_key-no i x n (beside n xs) (λ e. omega arith) ∙ none_after i n (x + 1) m xs h.2 (omega arith)

at_most_one : (i n low m : ℕ) (preds : List ℕ) → AscendFrom low m preds → (at_key i (beside n preds) ≡ []) ⊎ (at_key i (beside n preds) ≡ n ∷ [])
at_most_one i n low m [] h = inl refl
at_most_one i n low m (x ∷ xs) h = elim (cases_eq x i) [
  | inl same ↦ inr (at_key-yes i x n (beside n xs) same ∙ ap (λ (z : List ℕ). n ∷ z) (none_after i n (x + 1) m xs h.2 (omega arith)))
  | inr differ ↦ elim (at_most_one i n (x + 1) m xs h.2) [
    | inl e ↦ inl (at_key-no i x n (beside n xs) differ ∙ e)
    | inr e ↦ inr (at_key-no i x n (beside n xs) differ ∙ e)
  ]
]

-- ---- all actions

from_waits : (i n : ℕ) (actions : List Action) (j : ℕ) → Contains (at_key i (waits_from n actions)) j → (t : ℕ) × (action : Action) × (j ≡ n + t) × (slice_get actions t ≡ Some action) × Contains action.preds i
from_waits i n [] j h = absurd (contains_none j h)
from_waits i n (a ∷ actions) j h =
    let parted : Contains (at_key i (beside n a.preds) ++ at_key i (waits_from (n + 1) actions)) j = subst (λ (z : List ℕ). Contains z j) (at_key-append i (beside n a.preds) (waits_from (n + 1) actions)) h in
    elim (Contains-append_cases (at_key i (beside n a.preds)) (at_key i (waits_from (n + 1) actions)) j parted) [
      | inl here ↦ (let found = from_preds i n a.preds j here in let is = found.0 in (0, a, omega arith, refl, found.1))
      | inr later ↦ (let found = from_waits i (n + 1) actions j later in let is = found.2 in (suc found.0, found.1, omega arith, found.3, found.4))
    ]

to_waits : (i n : ℕ) (actions : List Action) (t : ℕ) (action : Action) → slice_get actions t ≡ Some action → Contains action.preds i → Contains (at_key i (waits_from n actions)) (n + t)
to_waits i n [] t action e h = absurd (none-some action e)
to_waits i n (a ∷ actions) zero action e h =
    let same : n ≡ n + 0 = omega arith in
    subst (λ (z : List ℕ). Contains z (n + 0)) (sym (at_key-append i (beside n a.preds) (waits_from (n + 1) actions)))
    (subst (λ (z : ℕ). Contains (at_key i (beside n a.preds) ++ at_key i (waits_from (n + 1) actions)) z) same
    (Contains-append_left (at_key i (beside n a.preds)) (at_key i (waits_from (n + 1) actions)) n (to_preds i n a.preds (subst (λ (z : Action). Contains z.preds i) (sym (same_Some a action e)) h))))
to_waits i n (a ∷ actions) (suc t) action e h =
    let same : n + 1 + t ≡ n + suc t = omega arith in
    subst (λ (z : List ℕ). Contains z (n + suc t)) (sym (at_key-append i (beside n a.preds) (waits_from (n + 1) actions)))
    (Contains-append_right (at_key i (beside n a.preds)) (at_key i (waits_from (n + 1) actions)) (n + suc t)
    (subst (λ (z : ℕ). Contains (at_key i (waits_from (n + 1) actions)) z) same (to_waits i (n + 1) actions t action e h)))

ascends : (i n low m : ℕ) (actions : List Action) → ((t : ℕ) (action : Action) → slice_get actions t ≡ Some action → AscendBelow (n + t) action.preds) → low ≤ n → n + length actions ≤ m → AscendFrom low m (at_key i (waits_from n actions))
ascends i n low m [] up le fits = tt
ascends i n low m (a ∷ actions) up le fits =
    let later = λ (t : ℕ) (action : Action) (e : slice_get actions t ≡ Some action). let same : n + suc t ≡ n + 1 + t = omega arith in subst (λ (z : ℕ). AscendBelow z action.preds) same (up (suc t) action e) in
    let preds = from_below 0 (n + 0) a.preds (up 0 a refl) (λ x ys e. omega arith) in
    subst (λ (z : List ℕ). AscendFrom low m z) (sym (at_key-append i (beside n a.preds) (waits_from (n + 1) actions)))
    (elim (at_most_one i n 0 (n + 0) a.preds preds) [
      | inl none ↦ rw none (ascends i (n + 1) low m actions later (omega arith) (omega arith))
      | inr one ↦ rw one (le, omega arith, ascends i (n + 1) (n + 1) m actions later (omega arith) (omega arith))
    ])

-- ---- the successors

below_all : (low m : ℕ) (xs : List ℕ) → AscendFrom low m xs → All (λ (j : ℕ). j < m) xs
below_all low m [] h = λ k d less. absurd (omega arith)
below_all low m (x ∷ xs) h = All-cons (λ (j : ℕ). j < m) x xs h.1 (below_all (x + 1) m xs h.2)

pub keys_below : (n m : ℕ) (actions : List Action) → ((t : ℕ) (action : Action) → slice_get actions t ≡ Some action → AscendBelow (n + t) action.preds) → n + length actions ≤ m → AreKeysBelow m (waits_from n actions)
keys_below n m [] up fits = λ k d less. absurd (omega arith)
keys_below n m (a ∷ actions) up fits =
    let later = λ (t : ℕ) (action : Action) (e : slice_get actions t ≡ Some action). let same : n + suc t ≡ n + 1 + t = omega arith in subst (λ (z : ℕ). AscendBelow z action.preds) same (up (suc t) action e) in
    All-append (λ (p : ℕ × ℕ). p.0 < m) (beside n a.preds) (waits_from (n + 1) actions)
    (All-map (λ (p : ℕ × ℕ). p.0 < m) (λ (j : ℕ). (j, n)) a.preds (All-weaker (λ (j : ℕ). j < n + 0) (λ (j : ℕ). j < m) (λ j less. omega arith) a.preds (below_all 0 (n + 0) a.preds (from_below 0 (n + 0) a.preds (up 0 a refl) (λ x ys e. omega arith)))))
    (keys_below (n + 1) m actions later (omega arith))

module _ (plan : Plan) (right : (k : ℕ) → ¬ HasBadPreds plan k) where
  up : (t : ℕ) (action : Action) → slice_get plan.actions t ≡ Some action → AscendBelow (0 + t) action.preds
  up t action is = let same : t ≡ 0 + t = omega arith in subst (λ (z : ℕ). AscendBelow z action.preds) same (ascending_preds plan right t action is)

  pub preds_below : AreKeysBelow (length plan.actions) (waits_from 0 plan.actions)
  preds_below = keys_below 0 (length plan.actions) plan.actions up (omega arith)

  pub successors_are : (i : ℕ) → AreSuccessors plan i (at_key i (waits_from 0 plan.actions))
  successors_are i = record {
    waiting = λ j. (
      λ h. let found = from_waits i 0 plan.actions j h in let is : found.0 ≡ j = (let e = found.2 in omega arith) in (found.1, subst (λ (z : ℕ). slice_get plan.actions z ≡ Some found.1) is found.3, found.4),
      λ waits. let is : 0 + j ≡ j = omega arith in subst (λ (z : ℕ). Contains (at_key i (waits_from 0 plan.actions)) z) is (to_waits i 0 plan.actions j waits.0 waits.1 waits.2),
    );
    ascending = below_from 0 (length plan.actions) (at_key i (waits_from 0 plan.actions)) (ascends i 0 0 (length plan.actions) plan.actions up (omega arith) (omega arith));
  }

  pub all_successors : (lists : List (List ℕ)) → length lists ≡ length plan.actions → ((k : ℕ) → k < length plan.actions → slice_get lists k ≡ Some (at_key k (waits_from 0 plan.actions))) → AreAllSuccessors plan lists
  all_successors lists size are = record {
    size = size;
    each = λ i numbers is. let within = slice_get_within lists i numbers is in
        subst (λ (z : List ℕ). AreSuccessors plan i z) (same_Some (at_key i (waits_from 0 plan.actions)) numbers (sym (are i (omega arith)) ∙ is)) (successors_are i);
    preds_within = λ j i waits.
        let less = All-contains (λ (x : ℕ). x < j) waits.0.preds i (below_all 0 j waits.0.preds (from_below 0 j waits.0.preds (ascending_preds plan right j waits.0 waits.1) (λ x ys e. omega arith))) waits.2 in
        let within = slice_get_within plan.actions j waits.0 waits.1 in
        omega arith;
  }

-- there are as many pairs as predecessors
count_beside : (n : ℕ) (js : List ℕ) → length (beside n js) ≡ length js
count_beside n [] = refl
count_beside n (j ∷ js) = let rest = count_beside n js in omega arith

count_sum : (a b c d e f : ℕ) → a ≡ b + c → b ≡ d → c ≡ e → f ≡ d + e → a ≡ f
count_sum a b c d e f p q r s = omega arith

pub count_waits : (n : ℕ) (actions : List Action) → length (waits_from n actions) ≡ sum_by (λ (a : Action). length a.preds) actions
count_waits n [] = refl
count_waits n (action ∷ actions) = count_sum _ _ _ _ _ _ (length-append (beside n action.preds) (waits_from (n + 1) actions)) (count_beside n action.preds) (count_waits (n + 1) actions) (sum_by-cons (λ (a : Action). length a.preds) action actions)

-- one action more
pub waits_more : (actions : List Action) (i : ℕ) (action : Action) (pairs more : List (ℕ × ℕ)) → i < length actions → action ≡ get_or actions i action → more ≡ pairs ++ beside i action.preds → pairs ++ waits_from i (drop i actions) ≡ waits_from 0 actions
    → more ++ waits_from (i + 1) (drop (i + 1) actions) ≡ waits_from 0 actions
waits_more actions i action pairs more less is grown so =
    let cut : drop i actions ≡ action ∷ drop (i + 1) actions = drop_more actions i action less ∙ ap (λ (a : Action). a ∷ drop (i + 1) actions) (sym is) in
    ap (λ (z : List (ℕ × ℕ)). z ++ waits_from (i + 1) (drop (i + 1) actions)) grown ∙ append_assoc pairs (beside i action.preds) (waits_from (i + 1) (drop (i + 1) actions))
    ∙ ap (λ (z : List Action). pairs ++ waits_from i z) (sym cut) ∙ so

pub keys_at : (plan : Plan) → ((k : ℕ) → ¬ HasBadPreds plan k) → (actions : List Action) (pairs : List (ℕ × ℕ)) → actions ≡ plan.actions → pairs ≡ waits_from 0 actions → AreKeysBelow (length actions) pairs
keys_at plan right actions pairs same is =
    subst (λ (z : List Action). AreKeysBelow (length z) pairs) (sym same) (subst (λ (z : List (ℕ × ℕ)). AreKeysBelow (length plan.actions) z) (sym (is ∙ ap (waits_from 0) same)) (preds_below plan right))

pub if_all : {E : Type 0} (plan : Plan) → ((k : ℕ) → ¬ HasBadPreds plan k) → (actions : List Action) (pairs : List (ℕ × ℕ)) → actions ≡ plan.actions → pairs ≡ waits_from 0 actions → (r : Result (List (List ℕ)) E) → IfOk r (λ lists. length lists ≡ length actions)
    → IfOk r (λ lists. (k : ℕ) → k < length actions → slice_get lists k ≡ Some (at_key k pairs)) → IfOk r (AreAllSuccessors plan)
if_all plan right actions pairs same is (Ok lists) size are =
    let count = ap length same in
    all_successors plan right lists (size ∙ count) (λ k less. are k (omega arith) ∙ ap (λ (z : List (ℕ × ℕ)). Some (at_key k z)) (is ∙ ap (waits_from 0) same))
if_all plan right actions pairs same is (Err e) size are = tt
