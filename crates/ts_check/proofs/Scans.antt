-- One pass over the actions, in which each entry meets its commit, or its mark.
use Rattle.std.proofs.Common.{◌≡◌, ◌≢◌, ℕ, zero, suc, ◌+◌, ◌<◌, ◌≤◌, List, [], ◌∷◌, length, replicate, set, get_or, Option, Some, None, slice_get, sym, refl, ap, ◌∙◌, subst, inl, inr, arith}
use Rattle.std.proofs.lemmas.Bool.{cases_eq, cases_lt}
use Rattle.std.proofs.lemmas.Option.{none-some, same_Some, slice_get_within, slice_get_read}
use Rattle.std.proofs.lemmas.List.{length-set}
use Rattle.ts_model.specs.Plans.{ActionIs, KindIs}
use Rattle.ts_model.specs.declared.plan.Reason.{Reason}
use Rattle.ts_model.specs.declared.plan.Reason.TheVariants as reason
use Rattle.ts_model.specs.declared.plan.Side.TheVariants as side
use Rattle.ts_model.specs.declared.plan.Entry.{Entry}
use Rattle.ts_model.specs.declared.plan.Kind.{Kind}
use Rattle.ts_model.specs.declared.plan.Action.{Action}
use Rattle.ts_model.specs.declared.plan.Plan.{Plan}
use Rattle.ts_check.specs.declared.census.Role.{Role}
use Rattle.ts_check.specs.declared.census.Role.TheVariants.{Commits, Marks}
use Rattle.ts_check.specs.Places.{IsIndex, IsUnmet, IsWanted, Wants, NotOneOf, kind_of, no_action}
use Rattle.ts_name.proofs.Basics.{element_at}

-- ---- lists

-- what is got from copies of one thing is that thing
got_replicate : (n x k y : ℕ) → slice_get (replicate n x) k ≡ Some y → y ≡ x
got_replicate zero x k y e = absurd (none-some y e)
got_replicate (suc n) x zero y e = sym (same_Some x y e)
got_replicate (suc n) x (suc k) y e = got_replicate n x k y e

-- what was set is got
pub got_set : {A : Type 0} (xs : List A) (k : ℕ) (x : A) → k < length xs → slice_get (set xs k x) k ≡ Some x
got_set [] k x h = absurd (omega arith)
got_set (y ∷ ys) zero x h = refl
got_set (y ∷ ys) (suc k) x h = got_set ys k x (omega arith)

-- and nothing else changed
pub got_beside : {A : Type 0} (xs : List A) (k j : ℕ) (x : A) → j ≢ k → slice_get (set xs k x) j ≡ slice_get xs j
got_beside [] k j x differ = refl
got_beside (y ∷ ys) zero zero x differ = absurd (differ refl)
got_beside (y ∷ ys) zero (suc j) x differ = refl
got_beside (y ∷ ys) (suc k) zero x differ = refl
got_beside (y ∷ ys) (suc k) (suc j) x differ = got_beside ys k j x (λ e. differ (ap suc e))

-- what a loop reads of a list that is another's items
pub item_at : {A : Type 0} (xs ys : List A) (i : ℕ) (x : A) → xs ≡ ys → i < length xs → x ≡ get_or xs i x → slice_get ys i ≡ Some x
item_at {A} xs ys i x same h e = subst (λ (z : List A). slice_get z i ≡ Some x) same (slice_get_read xs (length xs) i x refl h e)

-- an action has one entry
pub one_entry : (role : Role) (a b : ℕ) → kind_of role a ≡ kind_of role b → a ≡ b
one_entry Commits a b e = cc
one_entry Marks a b e = cc

-- a place holds one kind
pub same_kind : (plan : Plan) (i : ℕ) (action : Action) (kind : Kind) → ActionIs plan i action → KindIs plan i kind → action.kind ≡ kind
same_kind plan i action kind is h = ap (λ (a : Action). a.kind) (same_Some action h.0 (sym is ∙ h.1)) ∙ h.2

-- ---- the pass

pub record IsScanned (plan : Plan) (role : Role) (n : ℕ) (numbers : List ℕ) : Type 0 where
  pub index : IsIndex plan (kind_of role) n numbers
  pub right : (k : ℕ) → k < n → ¬ NotOneOf plan role k

-- no action's own place is a lacking one
own_place : (plan : Plan) (n e : ℕ) (action : Action) → ActionIs plan n action → n ≡ length plan.actions + e → ⊥
own_place plan n e action is at = let within = slice_get_within plan.actions n action is in omega arith

-- an action of another role changes nothing
pub IsScanned-skip : (plan : Plan) (role : Role) (n : ℕ) (numbers : List ℕ) (action : Action) → IsScanned plan role n numbers → ActionIs plan n action → ((e : ℕ) → action.kind ≢ kind_of role e)
    → IsScanned plan role (n + 1) numbers
IsScanned-skip plan role n numbers action so_far is none = record {
  index = record {
    size = so_far.index.size;
    found = λ e i at there. let h = so_far.index.found e i at there in (omega (arith, h.0), h.1);
    complete = λ e i h at. elim (cases_eq i n) [
      | inl same ↦ absurd (none e (same_kind plan n action (kind_of role e) is (subst (λ z. KindIs plan z (kind_of role e)) same at)))
      | inr differ ↦ so_far.index.complete e i (omega arith) at
    ];
  };
  right = λ k h wrong. elim (cases_eq k n) [
    | inl same ↦ here (subst (λ z. NotOneOf plan role z) same wrong)
    | inr differ ↦ so_far.right k (omega arith) wrong
  ];
}
  where
    here : ¬ NotOneOf plan role n
    here (inl h) = none h.0 (same_kind plan n action (kind_of role h.0) is h.1)
    here (inr h) = own_place plan n h.0 action is h.1

-- an action whose entry wants it and has none yet is taken in
pub IsScanned-take : (plan : Plan) (role : Role) (n e : ℕ) (numbers : List ℕ) (action : Action) → IsScanned plan role n numbers → ActionIs plan n action → action.kind ≡ kind_of role e
    → IsUnmet plan.entries role numbers e → n < no_action → IsScanned plan role (n + 1) (set numbers e n)
IsScanned-take plan role n e numbers action so_far is kind unmet few = record {
  index = record {
    size = length-set numbers e n ∙ so_far.index.size;
    found = found;
    complete = complete;
  };
  right = λ k h wrong. elim (cases_eq k n) [
    | inl same ↦ here (subst (λ z. NotOneOf plan role z) same wrong)
    | inr differ ↦ so_far.right k (omega arith) wrong
  ];
}
  where
    within : e < length numbers
    within = slice_get_within numbers e no_action unmet.3

    found : (f i : ℕ) → slice_get (set numbers e n) f ≡ Some i → i ≢ no_action → (i < n + 1) × KindIs plan i (kind_of role f)
    found f i at there = elim (cases_eq f e) [
      | inl same ↦ (
          let now : i ≡ n = same_Some i n (sym at ∙ ap (λ z. slice_get (set numbers e n) z) same ∙ got_set numbers e n within) in
          (omega arith, subst (λ z. KindIs plan z (kind_of role f)) (sym now) (action, is, kind ∙ ap (kind_of role) (sym same))))
      | inr differ ↦ (let h = so_far.index.found f i (sym (got_beside numbers e f n differ) ∙ at) there in (omega (arith, h.0), h.1))
    ]

    -- no earlier action is for this entry
    fresh : (i : ℕ) → i < n → ¬ KindIs plan i (kind_of role e)
    fresh i h at = absurd (let same : i ≡ no_action = same_Some i no_action (sym (so_far.index.complete e i h at) ∙ unmet.3) in omega arith)

    complete : (f i : ℕ) → i < n + 1 → KindIs plan i (kind_of role f) → slice_get (set numbers e n) f ≡ Some i
    complete f i h at = elim (cases_eq i n) [
      | inl same ↦ (
          let to : f ≡ e = one_entry role f e (sym (same_kind plan n action (kind_of role f) is (subst (λ z. KindIs plan z (kind_of role f)) same at)) ∙ kind) in
          ap (λ z. slice_get (set numbers e n) z) to ∙ got_set numbers e n within ∙ ap Some (sym same))
      | inr differ ↦ elim (cases_eq f e) [
        | inl to ↦ absurd (fresh i (omega arith) (subst (λ z. KindIs plan i (kind_of role z)) to at))
        | inr beside ↦ got_beside numbers e f n beside ∙ so_far.index.complete f i (omega arith) at
      ]
    ]

    here : ¬ NotOneOf plan role n
    here (inl h) =
        let to : h.0 ≡ e = one_entry role h.0 e (sym (same_kind plan n action (kind_of role h.0) is h.1) ∙ kind) in
        elim h.2 [
          | inl unwanted ↦ unwanted (subst (λ z. Wants plan role z) (sym to) (unmet.0, unmet.1, unmet.2))
          | inr earlier ↦ fresh earlier.0 earlier.2 (subst (λ z. KindIs plan earlier.0 z) (earlier.4 ∙ ap (kind_of role) to) earlier.3)
        ]
    here (inr h) = own_place plan n h.0 action is h.1

-- whether a reason wants an action of this role
decide_wanted : (role : Role) (r : Reason) → Dec (IsWanted role r)
decide_wanted Commits reason.First = yes (side.First, refl)
decide_wanted Commits reason.Second = yes (side.Second, refl)
decide_wanted Commits reason.Same = no (λ h. none-some h.0 h.1)
decide_wanted Commits reason.Conflict = no (λ h. none-some h.0 h.1)
decide_wanted Commits reason.Held = no (λ h. none-some h.0 h.1)
decide_wanted Commits reason.Dir = no (λ h. none-some h.0 h.1)
decide_wanted Marks reason.First = yes (λ h. elim h [ inl e ↦ cc | inr e ↦ cc ])
decide_wanted Marks reason.Second = yes (λ h. elim h [ inl e ↦ cc | inr e ↦ cc ])
decide_wanted Marks reason.Same = yes (λ h. elim h [ inl e ↦ cc | inr e ↦ cc ])
decide_wanted Marks reason.Dir = yes (λ h. elim h [ inl e ↦ cc | inr e ↦ cc ])
decide_wanted Marks reason.Conflict = no (λ h. h (inl refl))
decide_wanted Marks reason.Held = no (λ h. h (inr refl))

-- whether an entry does
decide_wants : (plan : Plan) (role : Role) (e : ℕ) → Dec (Wants plan role e)
decide_wants plan role e = go (slice_get plan.entries e) refl
  where
    go : (o : Option Entry) → slice_get plan.entries e ≡ o → Dec (Wants plan role e)
    go None is = no (λ h. none-some h.0 (sym is ∙ h.1))
    go (Some entry) is = elim (decide_wanted role entry.reason) [
      | yes h ↦ yes (entry, is, h)
      | no n ↦ no (λ h. n (subst (λ (z : Entry). IsWanted role z.reason) (same_Some h.0 entry (sym h.1 ∙ is)) h.2))
    ]

-- an action whose entry doesn't want it, or has one, stands at the first wrong place
pub wrong_here : (plan : Plan) (role : Role) (n e : ℕ) (numbers : List ℕ) (action : Action) → IsScanned plan role n numbers → ActionIs plan n action → action.kind ≡ kind_of role e
    → ¬ IsUnmet plan.entries role numbers e → NotOneOf plan role n
wrong_here plan role n e numbers action so_far is kind met = elim (decide_wants plan role e) [
  | no unwanted ↦ inl (e, (action, is, kind), inl unwanted)
  | yes wants ↦ taken wants
]
  where
    taken : Wants plan role e → NotOneOf plan role n
    taken wants =
        let within = slice_get_within plan.entries e wants.0 wants.1 in
        let at = element_at numbers e (omega (arith, so_far.index.size)) in
        elim (cases_eq at.0 no_action) [
          | inl none ↦ absurd (met (wants.0, wants.1, wants.2, at.1 ∙ ap Some none))
          | inr there ↦ (let h = so_far.index.found e at.0 at.1 there in inl (e, (action, is, kind), inr (at.0, kind_of role e, h.0, h.1, refl)))
        ]

-- ---- after the pass

-- an entry whose action is lacking is a wrong place
pub wrong_after : (plan : Plan) (role : Role) (e : ℕ) (numbers : List ℕ) → length plan.actions ≤ 1048576 → IsIndex plan (kind_of role) (length plan.actions) numbers → IsUnmet plan.entries role numbers e → NotOneOf plan role (length plan.actions + e)
wrong_after plan role e numbers few index unmet = inr (
  e,
  refl,
  (unmet.0, unmet.1, unmet.2),
  λ i at.
      let within = slice_get_within plan.actions i at.0 at.1 in
      absurd (let same : i ≡ no_action = same_Some i no_action (sym (index.complete e i within at) ∙ unmet.3) in omega arith),
)

-- and no other place after the actions is
pub right_after : (plan : Plan) (role : Role) (place : ℕ) (numbers : List ℕ) → IsIndex plan (kind_of role) (length plan.actions) numbers → length plan.actions ≤ place
    → NotOneOf plan role place → (e : ℕ) × (place ≡ length plan.actions + e) × (¬ (¬ IsUnmet plan.entries role numbers e))
right_after plan role place numbers index past (inl h) = absurd (let within = slice_get_within plan.actions place h.1.0 h.1.1 in omega arith)
right_after plan role place numbers index past (inr h) = (
  h.0,
  h.1,
  λ met.
      let within = slice_get_within plan.entries h.0 h.2.0 h.2.1 in
      let at = element_at numbers h.0 (omega (arith, index.size)) in
      elim (cases_eq at.0 no_action) [
        | inl none ↦ met (h.2.0, h.2.1, h.2.2, at.1 ∙ ap Some none)
        | inr there ↦ h.3 at.0 (index.found h.0 at.0 at.1 there).1
      ],
)

-- where an entry's action is lacking, and no earlier one's, that is the first wrong place
pub first_after : (plan : Plan) (role : Role) (numbers : List ℕ) (e : ℕ) → length plan.actions ≤ 1048576 → IsIndex plan (kind_of role) (length plan.actions) numbers
    → ((k : ℕ) → k < length plan.actions → ¬ NotOneOf plan role k) → IsUnmet plan.entries role numbers e → ((j : ℕ) → j < e → ¬ IsUnmet plan.entries role numbers j)
    → NotOneOf plan role (length plan.actions + e) × ((j : ℕ) → j < length plan.actions + e → ¬ NotOneOf plan role j)
first_after plan role numbers e few index right unmet met = (
  wrong_after plan role e numbers few index unmet,
  λ j h wrong. elim (cases_lt j (length plan.actions)) [
    | inl early ↦ right j early wrong
    | inr late ↦ (let at = right_after plan role j numbers index late wrong in at.2 (met at.0 (let e = at.1 in omega arith)))
  ],
)

-- where none is lacking, no place is wrong
pub never_after : (plan : Plan) (role : Role) (numbers : List ℕ) → IsIndex plan (kind_of role) (length plan.actions) numbers
    → ((k : ℕ) → k < length plan.actions → ¬ NotOneOf plan role k) → ((j : ℕ) → ¬ IsUnmet plan.entries role numbers j) → (k : ℕ) → ¬ NotOneOf plan role k
never_after plan role numbers index right met k wrong = elim (cases_lt k (length plan.actions)) [
  | inl early ↦ right k early wrong
  | inr late ↦ (let at = right_after plan role k numbers index late wrong in at.2 (met at.0))
]
