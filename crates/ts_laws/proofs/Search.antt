-- Deciding by search: elements at a place, numbers below a bound, and the least of them.
use Rattle.std.proofs.Common.{◌≡◌, ◌⊎◌, Bool, true, false, ℕ, zero, suc, ◌+◌, ◌<◌, ◌≤◌, List, [], ◌∷◌, length, Option, Some, None, slice_get, sym, refl, ◌∙◌, subst, inl, inr, arith}
use Rattle.std.specs.List.{AllByRecursion}
use Rattle.std.proofs.lemmas.Bool.{cases_eq, cases_lt}
use Rattle.std.proofs.lemmas.Option.{none-some, same_Some, slice_get_within}
use Rattle.std.proofs.Math.Decide.{map_dec}

-- whether a number is below another
pub decide_less : (m n : ℕ) → Dec (m < n)
decide_less m n = elim (cases_lt m n) [ inl h ↦ yes h | inr h ↦ no (λ g. omega arith) ]

-- whether it is at most another
pub decide_at_most : (m n : ℕ) → Dec (m ≤ n)
decide_at_most m n = elim (cases_lt n m) [ inl h ↦ no (λ g. omega arith) | inr h ↦ yes (omega (arith, h)) ]

-- whether a test is passed
pub decide_true : (x : Bool) → Dec (x ≡ true)
decide_true true = yes refl
decide_true false = no (λ e. cc)

-- whether a list is empty
pub decide_empty : {A : Type 0} (xs : List A) → Dec (xs ≡ [])
decide_empty [] = yes refl
decide_empty (x ∷ xs) = no (λ e. cc)

-- whether the element at a place exists and has a decided fact
pub decide_at : {A : Type 0} (xs : List A) (k : ℕ) (P : A → Type 0) → ((x : A) → Dec (P x)) → Dec ((x : A) × (slice_get xs k ≡ Some x) × P x)
decide_at {A} xs k P d = go (slice_get xs k) refl
  where
    go : (o : Option A) → slice_get xs k ≡ o → Dec ((x : A) × (slice_get xs k ≡ Some x) × P x)
    go None e = no (λ h. none-some h.0 (sym e ∙ h.1))
    go (Some x) e = elim (d x) [ yes h ↦ yes (x, e, h) | no n ↦ no (λ h. n (subst P (same_Some h.0 x (sym h.1 ∙ e)) h.2)) ]

-- the least number below n with a decided fact, or none has it
pub least_below : (P : ℕ → Type 0) → ((k : ℕ) → Dec (P k)) → (n : ℕ)
    → ((k : ℕ) × (k < n) × P k × ((j : ℕ) → j < k → ¬ P j)) ⊎ ((k : ℕ) → k < n → ¬ P k)
least_below P d zero = inr (λ k less. absurd (omega (arith, less)))
least_below P d (suc n) = elim (least_below P d n) [
  | inl found ↦ inl (found.0, omega (arith, found.1), found.2, found.3)
  | inr none ↦ elim (d n) [
    | yes h ↦ inl (n, omega arith, h, none)
    | no m ↦ inr (λ k less. elim (cases_eq k n) [ inl same ↦ (λ h. m (subst P same h)) | inr differ ↦ none k (omega arith) ])
  ]
]

-- whether a number below n has it
pub decide_number : (P : ℕ → Type 0) → ((k : ℕ) → Dec (P k)) → (n : ℕ) → Dec ((k : ℕ) × (k < n) × P k)
decide_number P d n = elim (least_below P d n) [
  | inl found ↦ yes (found.0, found.1, found.2)
  | inr none ↦ no (λ h. none h.0 h.1 h.2)
]

-- whether an element with its place has it
pub decide_place : {A : Type 0} (xs : List A) (P : ℕ → A → Type 0) → ((k : ℕ) (x : A) → Dec (P k x)) → Dec ((k : ℕ) × (x : A) × (slice_get xs k ≡ Some x) × P k x)
decide_place {A} xs P d = map_dec
    (λ h. (h.0, h.2.0, h.2.1, h.2.2))
    (λ h. (h.0, slice_get_within xs h.0 h.1 h.2, (h.1, h.2, h.3)))
    (decide_number (λ k. (x : A) × (slice_get xs k ≡ Some x) × P k x) (λ k. decide_at xs k (P k) (d k)) (length xs))

-- whether a number is this one and more, and how much more has a decided fact
pub decide_more : (n place : ℕ) (P : ℕ → Type 0) → ((e : ℕ) → Dec (P e)) → Dec ((e : ℕ) × (place ≡ n + e) × P e)
decide_more n place P d = map_dec
    (λ h. (h.0, h.2.0, h.2.1))
    (λ h. (h.0, omega (arith, h.1), (h.1, h.2)))
    (decide_number (λ e. (place ≡ n + e) × P e) decide (suc place))
  where
    decide : (e : ℕ) → Dec ((place ≡ n + e) × P e)
    decide e = elim (cases_eq place (n + e)) [
      | inr differ ↦ no (λ h. differ h.0)
      | inl same ↦ elim (d e) [ yes h ↦ yes (same, h) | no m ↦ no (λ h. m h.1) ]
    ]

-- whether each element has a decided fact
pub decide_each : {A : Type 0} (P : A → Type 0) → ((x : A) → Dec (P x)) → (xs : List A) → Dec (AllByRecursion P xs)
decide_each P d [] = yes tt
decide_each P d (x ∷ xs) = elim (d x) [
  | no n ↦ no (λ all. n all.0)
  | yes h ↦ elim (decide_each P d xs) [ yes more ↦ yes (h, more) | no n ↦ no (λ all. n all.1) ]
]
