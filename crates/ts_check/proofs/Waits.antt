-- Ascending predecessors, and what an action waits for.
use Rattle.std.proofs.Common.{◌≡◌, ℕ, zero, suc, ◌+◌, ◌<◌, ◌≤◌, List, [], ◌∷◌, length, drop, get_or, Contains, MatchResult, IsTrue, is_ok, Result, Ok, Err, sym, refl, ◌∙◌, subst, inl, inr, arith}
use Rattle.std.proofs.lemmas.Bool.{cases_lt}
use Rattle.std.specs.Ordering.{nat_cmp}
use Rattle.std.specs.List.Sorted.{IsBinarySearchResult}
use Rattle.std.proofs.lemmas.Bool.{true≢false}
use Rattle.std.proofs.lemmas.List.Sorted.{searched}
use Rattle.std.proofs.lemmas.Option.{same_Some, slice_get-get_or, get_or_from_slice_get}
use Rattle.ts_model.specs.Plans.{ActionIs, Waits, AscendBelow}
use Rattle.ts_model.specs.declared.plan.Action.{Action}
use Rattle.ts_model.specs.declared.plan.Plan.{Plan}
use Rattle.ts_check.specs.Waiting.{AscendFrom, HasBadPreds}
use Rattle.ts_laws.proofs.Lists.{decide_ascend}

-- ---- ascending numbers

-- what ascends from any place on ascends
pub below_from : (low n : ℕ) (xs : List ℕ) → AscendFrom low n xs → AscendBelow n xs
below_from low n [] h = tt
below_from low n (x ∷ []) h = h.1
below_from low n (x ∷ y ∷ zs) h = (omega (arith, h.2.0), below_from (x + 1) n (y ∷ zs) h.2)

-- and what ascends does so from its first number on
pub from_below : (low n : ℕ) (xs : List ℕ) → AscendBelow n xs → ((x : ℕ) (ys : List ℕ) → xs ≡ x ∷ ys → low ≤ x) → AscendFrom low n xs
from_below low n [] h begin = tt
from_below low n (x ∷ []) h begin = (begin x [] refl, h, tt)
from_below low n (x ∷ y ∷ zs) h begin =
    let rest = from_below (x + 1) n (y ∷ zs) h.1 (λ z ys e. let same : y ≡ z = cc in omega (arith, h.0)) in
    (begin x (y ∷ zs) refl, omega (arith, rest.1, h.0), rest)

-- each number that ascends from low on is at least low
at_least : (low n : ℕ) (xs : List ℕ) (k : ℕ) → AscendFrom low n xs → k < length xs → low ≤ get_or xs k 0
at_least low n [] k h within = absurd (omega arith)
at_least low n (x ∷ xs) zero h within = h.0
at_least low n (x ∷ xs) (suc k) h within = let more = at_least (x + 1) n xs k h.2 (omega arith) in omega (arith, h.0)

-- numbers that ascend never fall
pub never_falls : (low n : ℕ) (xs : List ℕ) → AscendFrom low n xs → (i j : ℕ) → i ≤ j → j < length xs → get_or xs i 0 ≤ get_or xs j 0
never_falls low n [] h i j less within = absurd (omega arith)
never_falls low n (x ∷ xs) h zero zero less within = omega arith
never_falls low n (x ∷ xs) h zero (suc j) less within = let more = at_least (x + 1) n xs j h.2 (omega arith) in omega arith
never_falls low n (x ∷ xs) h (suc i) zero less within = absurd (omega arith)
never_falls low n (x ∷ xs) h (suc i) (suc j) less within = never_falls (x + 1) n xs h.2 i j (omega arith) (omega arith)

-- ---- waiting

-- a binary search of ascending numbers finds what they contain
pub search_tells : (n : ℕ) (xs : List ℕ) (x : ℕ) (r : Result ℕ ℕ) → AscendBelow n xs → IsBinarySearchResult (λ y. nat_cmp y x) xs r → (IsTrue (is_ok r) → Contains xs x) × (Contains xs x → IsTrue (is_ok r))
search_tells n xs x r ascend result = go r (searched xs x r result (never_falls 0 n xs (from_below 0 n xs ascend (λ y ys e. omega arith))))
  where
    at_zero : (k : ℕ) → k < length xs → (d : ℕ) → get_or xs k d ≡ get_or xs k 0
    at_zero k h d = get_or_from_slice_get xs k (get_or xs k 0) d (slice_get-get_or xs k 0 h)

    go : (r : Result ℕ ℕ) → MatchResult r (λ i. (i < length xs) × (get_or xs i 0 ≡ x)) (λ i. (i ≤ length xs) × ((k : ℕ) → k < i → get_or xs k 0 < x) × ((k : ℕ) → i ≤ k → k < length xs → x < get_or xs k 0))
        → (IsTrue (is_ok r) → Contains xs x) × (Contains xs x → IsTrue (is_ok r))
    go (Ok i) h = (λ _. (i, h.0, at_zero i h.0 x ∙ h.1), λ _. refl)
    go (Err i) h = (
      λ is. absurd (true≢false (sym is)),
      λ has. absurd (
          let same = sym (at_zero has.0 has.1 x) ∙ has.2 in
          elim (cases_lt has.0 i) [ inl less ↦ (let g = h.1 has.0 less in omega arith) | inr more ↦ (let g = h.2 has.0 more has.1 in omega arith) ]),
    )

-- the predecessors of each action ascend
pub ascending_preds : (plan : Plan) → ((k : ℕ) → ¬ HasBadPreds plan k) → (i : ℕ) (action : Action) → ActionIs plan i action → AscendBelow i action.preds
ascending_preds plan right i action is = elim (decide_ascend i action.preds) [ yes h ↦ h | no n ↦ absurd (right i (action, is, n)) ]

-- an action waits for its predecessors
pub contained : (plan : Plan) (i j : ℕ) (action : Action) → ActionIs plan i action → Waits plan i j → Contains action.preds j
contained plan i j action is h = subst (λ (a : Action). Contains a.preds j) (same_Some h.0 action (sym h.1 ∙ is)) h.2

-- what is left from a place within the list on is the number there and what is left after it
pub from_at : (low n : ℕ) (xs : List ℕ) (k : ℕ) → k < length xs
    → (AscendFrom low n (drop k xs) → (low ≤ get_or xs k 0) × (get_or xs k 0 < n) × AscendFrom (get_or xs k 0 + 1) n (drop (k + 1) xs))
    × ((low ≤ get_or xs k 0) × (get_or xs k 0 < n) × AscendFrom (get_or xs k 0 + 1) n (drop (k + 1) xs) → AscendFrom low n (drop k xs))
from_at low n [] k h = absurd (omega arith)
from_at low n (x ∷ xs) zero h = (λ g. g, λ g. g)
from_at low n (x ∷ xs) (suc k) h = let e : suc k + 1 ≡ suc (k + 1) = omega arith in rw e (from_at low n xs k (omega arith))

-- nothing is left from the end on
pub from_step : (low n : ℕ) (xs : List ℕ) (k : ℕ) → length xs ≤ k → AscendFrom low n (drop k xs)
from_step low n [] zero h = tt
from_step low n [] (suc k) h = tt
from_step low n (x ∷ xs) zero h = absurd (omega arith)
from_step low n (x ∷ xs) (suc k) h = from_step low n xs k (omega arith)
