-- The entries beside the pass over an archive and two replicas.
use Rattle.std.proofs.Common.{◌≡◌, ◌≢◌, ◌⊎◌, ℕ, ◌+◌, ◌<◌, ◌≤◌, Bool, true, false, List, [], ◌∷◌, ◌++◌, length, Option, Some, None, slice_get, refl, sym, ap, subst, ◌∙◌, inl, inr, arith}
use Rattle.std.specs.Option.{option_or}
use Rattle.std.specs.Ordering.{is_lt}
use Rattle.std.proofs.lemmas.Bool.{cases_eq, cases_lt}
use Rattle.std.proofs.lemmas.Option.{same_Some, slice_get_within}
use Rattle.ts_name.specs.Paths.{Path, IsBefore, path_cmp}
use Rattle.ts_name.proofs.Basics.{element_at}
use Rattle.ts_name.proofs.Order.{before_cases, before_itself, before_trans, before_turned, decide_before, is_lt_Less}
use Rattle.ts_model.specs.Plans.{HasWrongReason, IsOutOfOrder, Lacks}
use Rattle.ts_model.specs.Sync.{HasReason, Snapshot, listed_snapshot}
use Rattle.ts_model.specs.Trees.{IsListing, Listing}
use Rattle.ts_model.specs.declared.hold.Rule.{Rule}
use Rattle.ts_model.specs.declared.plan.Entry.{Entry}
use Rattle.ts_model.specs.declared.plan.Reason.{Reason}
use Rattle.ts_model.specs.declared.row.Stamp.{Stamp}
use Rattle.ts_laws.proofs.Plans.{entries_in_order}
use Rattle.ts_print.specs.Walks.{HasEnded, IsLeft, Left}
use Rattle.ts_print.proofs.Order.{upto_before}
use Rattle.ts_print.proofs.Walks.{left_none}
use Rattle.ts_need.specs.Merges.{ComesAfter, IsReasoned}
use Rattle.ts_model.specs.declared.plan.PlanRule.{PlanRule}
use Rattle.ts_model.specs.declared.plan.PlanRule.TheVariants.{ReasonsHold, EntriesComplete}
use Rattle.ts_need.specs.Needs.{IsFirst, IsNeedAnswer, IsReasonOf, LacksAt, Never}
use Rattle.ts_need.specs.declared.broken.Broken.{Broken}
use Rattle.ts_need.proofs.Edges.{right_reason, wrong_reason}
use Rattle.ts_need.proofs.Lacking.{IsFirst-same, count_front}
use Rattle.ts_need.proofs.Standing.{no_reason}

-- a path up to b lacks an entry, and this is its place
abbrev pub LacksUpto : Snapshot → List Entry → Path → ℕ → Type 0
LacksUpto s entries b place = (p : Path) × (¬ IsBefore b p) × LacksAt s entries p place

-- the entries before this number are right, of the paths up to b
pub record IsChecked (s : Snapshot) (entries : List Entry) (b : Path) (next : ℕ) (lacking : Option ℕ) : Type 0 where
  pub right : (j : ℕ) → j < next → ¬ HasWrongReason s entries j
  pub passed : (j : ℕ) (entry : Entry) → j < next → slice_get entries j ≡ Some entry → ¬ IsBefore b entry.path
  pub unreasoned : (j : ℕ) (entry : Entry) (r : Reason) → next ≤ j → slice_get entries j ≡ Some entry → ¬ IsBefore b entry.path → ¬ HasReason s entry.path r
  pub lacks : IsFirst (LacksUpto s entries b) lacking
  pub low : (n : ℕ) → lacking ≡ Some n → n ≤ next
  pub within : next ≤ length entries

module _ (A F S : Listing Stamp) (rules : List Rule) (lists_a : IsListing A) (lists_f : IsListing F) (lists_s : IsListing S) (entries : List Entry) (order : (k : ℕ) → ¬ IsOutOfOrder entries k) where
  abbrev s : Snapshot
  s = listed_snapshot A F S rules

  -- an entry after another has a later path
  later : (i j : ℕ) (x y : Entry) → slice_get entries i ≡ Some x → slice_get entries j ≡ Some y → i < j → IsBefore x.path y.path
  later i j x y is_x is_y less = entries_in_order entries order i j x y is_x is_y less

  -- the same entry
  same_entry : (i j : ℕ) (x y : Entry) → slice_get entries i ≡ Some x → slice_get entries j ≡ Some y → i ≡ j → x ≡ y
  same_entry i j x y is_x is_y e = same_Some x y (sym is_x ∙ ap (slice_get entries) e ∙ is_y)

  -- of the entries from one on, each comes after what comes before the first
  all_after : (next : ℕ) (p : Path) → ComesAfter entries next p → (j : ℕ) (y : Entry) → next ≤ j → slice_get entries j ≡ Some y → IsBefore p y.path
  all_after next p after j y le is = elim (cases_eq next j) [
    | inl e ↦ after y (ap (slice_get entries) e ∙ is)
    | inr differ ↦ (
        let x = element_at entries next (let w = slice_get_within entries j y is in omega arith) in
        before_trans p x.0.path y.path (after x.0 x.1) (later next j x.0 y x.1 is (omega arith)))
  ]

  pub checked_start : (next : ℕ) (lacking : Option ℕ) → next ≡ 0 → lacking ≡ None → IsChecked s entries [] next lacking
  checked_start next lacking e_next e_lacking = subst (λ (n : ℕ). IsChecked s entries [] n lacking) (sym e_next) (subst (λ (o : Option ℕ). IsChecked s entries [] 0 o) (sym e_lacking) begin)
    where
      root_only : (p : Path) → ¬ IsBefore [] p → p ≡ []
      root_only [] n = refl
      root_only (x ∷ p) n = absurd (n refl)

      no_root : (r : Reason) → ¬ HasReason s [] r
      no_root r has = empty has.0.0 has.0.1 has.0.2
        where
          empty : (parent : Path) (name : List ℕ) → ¬ ([] ≡ parent ++ name ∷ [])
          empty [] name e = cc
          empty (x ∷ parent) name e = cc

      begin : IsChecked s entries [] 0 None
      begin = record {
        right = λ j less. absurd (omega arith);
        passed = λ j entry less. absurd (omega arith);
        unreasoned = λ j entry r le is n has. no_root r (subst (λ (z : Path). HasReason s z r) (root_only entry.path n) has);
        lacks = λ k lack. no_root lack.2.0 (subst (λ (z : Path). HasReason s z lack.2.0) (root_only lack.0 lack.1) lack.2.1);
        low = λ n e. absurd cc;
        within = omega arith;
      }

  -- ---- a path and its reason, with all up to the next

  module _ (b p after : Path) (found : Option Reason) (next : ℕ) (lacking : Option ℕ) (so_far : IsChecked s entries b next lacking) (less : IsBefore b p) (is : IsReasoned A F S rules b p after found) where
    upto_after : (q : Path) → ¬ IsBefore b q → ¬ IsBefore after q
    upto_after q n more = is.later (before_upto_less q n more)
      where
        before_upto_less : (q : Path) → ¬ IsBefore b q → IsBefore after q → IsBefore after p
        before_upto_less q n more = elim (before_cases after p) [
          | inl h ↦ h
          | inr more' ↦ absurd (n (elim more' [ inl e ↦ before_trans b p q less (subst (λ (z : Path). IsBefore z q) e more) | inr h ↦ before_trans b p q less (before_trans p after q h more) ]))
        ]

    -- of what has a reason, up to the next, only p is new
    new_one : (q : Path) (r : Reason) → ¬ IsBefore after q → HasReason s q r → (¬ IsBefore b q) ⊎ (q ≡ p)
    new_one q r n has = elim (decide_before b q) [
      | no m ↦ inl m
      | yes beyond ↦ inr (same q r beyond n has)
    ]
      where
        same : (q : Path) (r : Reason) → IsBefore b q → ¬ IsBefore after q → HasReason s q r → q ≡ p
        same q r beyond n has = elim (before_cases q p) [
          | inl before ↦ absurd (is.alone q r beyond n (λ e. before_itself p (subst (λ (z : Path). IsBefore z p) e before)) has)
          | inr more ↦ elim more [
            | inl e ↦ e
            | inr h ↦ absurd (is.alone q r beyond n (λ e. before_itself p (subst (λ (z : Path). IsBefore p z) e h)) has)
          ]
        ]

    passed_on : (j : ℕ) (entry : Entry) → j < next → slice_get entries j ≡ Some entry → ¬ IsBefore after entry.path
    passed_on j entry lt at_j = upto_after entry.path (so_far.passed j entry lt at_j)

    -- where p isn't lacking, the same paths are
    lacks_same : ((place : ℕ) → ¬ LacksAt s entries p place) → IsFirst (LacksUpto s entries after) lacking
    lacks_same none = IsFirst-same (LacksUpto s entries b) (LacksUpto s entries after) (λ k lack. (lack.0, upto_after lack.0 lack.1, lack.2)) back lacking so_far.lacks
      where
        back : (k : ℕ) → LacksUpto s entries after k → LacksUpto s entries b k
        back k lack = elim (new_one lack.0 lack.2.0 lack.1 lack.2.1) [
          | inl m ↦ (lack.0, m, lack.2)
          | inr e ↦ absurd (none k (subst (λ (z : Path). LacksAt s entries z k) e lack.2))
        ]

    -- the next entry is wrong
    pub wrong_next : (entry : Entry) → slice_get entries next ≡ Some entry → IsBefore entry.path p ⊎ ((entry.path ≡ p) × (found ≢ Some entry.reason)) → IsFirst (HasWrongReason s entries) (Some next)
    wrong_next entry at_next how = ((entry, at_next, elim how [ inl before ↦ is_early before | inr e ↦ is_other e.0 e.1 ]), so_far.right)
      where
        is_other : entry.path ≡ p → found ≢ Some entry.reason → ¬ HasReason s entry.path entry.reason
        is_other e differ has = wrong_reason s p found entry.reason is.reason differ (subst (λ (z : Path). HasReason s z entry.reason) e has)

        is_early : IsBefore entry.path p → ¬ HasReason s entry.path entry.reason
        is_early before has = elim (decide_before b entry.path) [
          | no m ↦ so_far.unreasoned next entry entry.reason (omega arith) at_next m has
          | yes beyond ↦ is.alone entry.path entry.reason beyond (λ more. is.later (before_trans after entry.path p more before)) (λ e. before_itself p (subst (λ (z : Path). IsBefore z p) e before)) has
        ]

    -- the next entry is right
    pub right_next : (more : ℕ) (entry : Entry) → more ≡ next + 1 → slice_get entries next ≡ Some entry → entry.path ≡ p → found ≡ Some entry.reason → IsChecked s entries after more lacking
    right_next more entry e_more at_next e_path e_found = subst (λ (n : ℕ). IsChecked s entries after n lacking) (sym e_more) (record {
      right = λ j lt. elim (cases_lt j next) [
        | inl lower ↦ so_far.right j lower
        | inr not_lower ↦ (λ wrong. wrong.2 (subst (λ (z : Entry). HasReason s z.path z.reason) (same_entry next j entry wrong.0 at_next wrong.1 (omega arith)) has))
      ];
      passed = λ j y lt at_j. elim (cases_lt j next) [
        | inl lower ↦ passed_on j y lower at_j
        | inr not_lower ↦ subst (λ (z : Entry). ¬ IsBefore after z.path) (same_entry next j entry y at_next at_j (omega arith)) (subst (λ (z : Path). ¬ IsBefore after z) (sym e_path) is.later)
      ];
      unreasoned = λ j y r le at_j n reasoned. elim (new_one y.path r n reasoned) [
        | inl m ↦ so_far.unreasoned j y r (omega arith) at_j m reasoned
        | inr e ↦ before_itself p (subst (λ (z : Path). IsBefore p z) e (subst (λ (z : Path). IsBefore z y.path) e_path (later next j entry y at_next at_j (omega arith))))
      ];
      lacks = lacks_same (λ place lack. lack.2 next entry at_next e_path);
      low = λ n e. let old = so_far.low n e in omega arith;
      within = let w = slice_get_within entries next entry at_next in omega arith;
    })
      where
        has : HasReason s entry.path entry.reason
        has = subst (λ (z : Path). HasReason s z entry.reason) (sym e_path) (right_reason s p found entry.reason is.reason e_found)

    -- there is none, and p needs none
    pub none_next : found ≡ None → IsChecked s entries after next lacking
    none_next e_found = record {
      right = so_far.right;
      passed = passed_on;
      unreasoned = λ j y r le at_j n reasoned. elim (new_one y.path r n reasoned) [
        | inl m ↦ so_far.unreasoned j y r le at_j m reasoned
        | inr e ↦ no_reason_of_p r (subst (λ (z : Path). HasReason s z r) e reasoned)
      ];
      lacks = lacks_same (λ place lack. no_reason_of_p lack.0 lack.1);
      low = so_far.low;
      within = so_far.within;
    }
      where
        no_reason_of_p : (r : Reason) → ¬ HasReason s p r
        no_reason_of_p r = (subst (λ (o : Option Reason). IsReasonOf s p o) e_found is.reason) r

    -- there is none, and p needs one
    pub lacks_next : (more : Option ℕ) (r : Reason) → more ≡ option_or lacking (Some next) → ComesAfter entries next p → found ≡ Some r → IsChecked s entries after next more
    lacks_next more r e_more comes e_found = record {
      right = so_far.right;
      passed = passed_on;
      unreasoned = λ j y q le at_j n reasoned. elim (new_one y.path q n reasoned) [
        | inl m ↦ so_far.unreasoned j y q le at_j m reasoned
        | inr e ↦ before_itself p (subst (λ (z : Path). IsBefore p z) e (all_after next p comes j y le at_j))
      ];
      lacks = subst (λ (o : Option ℕ). IsFirst (LacksUpto s entries after) o) (sym e_more) (first lacking so_far.lacks so_far.low);
      low = low lacking so_far.low more e_more;
      within = so_far.within;
    }
      where
        low : (o : Option ℕ) → ((n : ℕ) → o ≡ Some n → n ≤ next) → (m : Option ℕ) → m ≡ option_or o (Some next) → (n : ℕ) → m ≡ Some n → n ≤ next
        low None old m e n f = let g : next ≡ n = same_Some next n (sym e ∙ f) in omega arith
        low (Some k) old m e n f = let g : k ≡ n = same_Some k n (sym e ∙ f) in let h = old k refl in omega arith

        lacks_p : LacksAt s entries p next
        lacks_p = (
          r,
          subst (λ (o : Option Reason). IsReasonOf s p o) e_found is.reason,
          λ k entry at_k e. elim (cases_lt k next) [
            | inl lower ↦ so_far.passed k entry lower at_k (subst (λ (z : Path). IsBefore b z) (sym e) less)
            | inr not_lower ↦ before_itself p (subst (λ (z : Path). IsBefore p z) e (all_after next p comes k entry (omega arith) at_k))
          ],
          sym (count_front (λ (e : Entry). is_lt (path_cmp e.path p)) entries next so_far.within
              (λ k x at_k lower. ap is_lt (upto_before x.path b p (so_far.passed k x lower at_k) less))
              (λ k x at_k le. not_lt x.path (before_turned p x.path (all_after next p comes k x le at_k)))),
        )
          where
            not_lt : (q : Path) → ¬ IsBefore q p → is_lt (path_cmp q p) ≡ false
            not_lt q n = go (is_lt (path_cmp q p)) refl
              where
                go : (t : Bool) → is_lt (path_cmp q p) ≡ t → t ≡ false
                go false e = refl
                go true e = absurd (n (is_lt_Less (path_cmp q p) e))

        -- what lacks an entry up to the next: what did before, or p at this place
        place_of_p : (k : ℕ) → LacksAt s entries p k → k ≡ next
        place_of_p k lack = lack.3 ∙ sym lacks_p.3

        first : (o : Option ℕ) → IsFirst (LacksUpto s entries b) o → ((n : ℕ) → o ≡ Some n → n ≤ next) → IsFirst (LacksUpto s entries after) (option_or o (Some next))
        first None none low = (
          (p, is.later, lacks_p),
          λ j lower lack. elim (new_one lack.0 lack.2.0 lack.1 lack.2.1) [
            | inl m ↦ none j (lack.0, m, lack.2)
            | inr e ↦ (let f = place_of_p j (subst (λ (z : Path). LacksAt s entries z j) e lack.2) in omega arith)
          ],
        )
        first (Some k) old low = (
          (old.0.0, upto_after old.0.0 old.0.1, old.0.2),
          λ j lower lack. elim (new_one lack.0 lack.2.0 lack.1 lack.2.1) [
            | inl m ↦ old.1 j lower (lack.0, m, lack.2)
            | inr e ↦ (let f = place_of_p j (subst (λ (z : Path). LacksAt s entries z j) e lack.2) in let g = low k refl in omega arith)
          ],
        )

  -- ---- the end

  module _ (b : Path) (left : Left) (next : ℕ) (lacking : Option ℕ) (so_far : IsChecked s entries b next lacking) (is_left : IsLeft A F S b left) (ended : HasEnded left) where
    none_left : (q : Path) (r : Reason) → IsBefore b q → ¬ HasReason s q r
    none_left q r beyond = no_reason A F S rules lists_a lists_f lists_s q r (left_none A F S b left is_left ended q beyond)

    -- an entry that is left over has no reason
    pub wrong_last : next < length entries → IsFirst (HasWrongReason s entries) (Some next)
    wrong_last lt = let x = element_at entries next lt in ((x.0, x.1, wrong x.0 x.1), so_far.right)
      where
        wrong : (entry : Entry) → slice_get entries next ≡ Some entry → ¬ HasReason s entry.path entry.reason
        wrong entry at_next has = elim (decide_before b entry.path) [
          | no m ↦ so_far.unreasoned next entry entry.reason (omega arith) at_next m has
          | yes beyond ↦ none_left entry.path entry.reason beyond has
        ]

    pub all_right : length entries ≤ next → Never (HasWrongReason s entries)
    all_right le k wrong = so_far.right k (let w = slice_get_within entries k wrong.0 wrong.1 in omega arith) wrong

    pub all_lacking : IsFirst (Lacks s entries) lacking
    all_lacking = IsFirst-same (LacksUpto s entries b) (Lacks s entries) (λ k lack. (lack.0, lack.2.0, lack.2.1, lack.2.2, lack.2.3)) back lacking so_far.lacks
      where
        back : (k : ℕ) → Lacks s entries k → LacksUpto s entries b k
        back k lack = elim (decide_before b lack.0) [
          | no m ↦ (lack.0, m, (lack.1, lack.2, lack.3, lack.4))
          | yes beyond ↦ absurd (none_left lack.0 lack.1 beyond lack.2)
        ]

-- ---- the answer

-- what an answer names
abbrev pub Names : Option Broken → PlanRule → ℕ → Type 0
Names answer rule place = (found : Broken) × (answer ≡ Some found) × (found.rule ≡ rule) × (found.place ≡ place)

pub answer_wrong : (s : Snapshot) (entries : List Entry) (answer : Option Broken) (next : ℕ) → Names answer ReasonsHold next → IsFirst (HasWrongReason s entries) (Some next) → IsNeedAnswer s entries answer
answer_wrong s entries answer next names first = subst (λ (o : Option Broken). IsNeedAnswer s entries o) (sym names.1)
    (inl (names.2, subst (λ (n : ℕ). IsFirst (HasWrongReason s entries) (Some n)) (sym names.3) first))

pub answer_lacking : (s : Snapshot) (entries : List Entry) (answer : Option Broken) (place : ℕ) → Names answer EntriesComplete place → Never (HasWrongReason s entries) → IsFirst (Lacks s entries) (Some place) → IsNeedAnswer s entries answer
answer_lacking s entries answer place names never first = subst (λ (o : Option Broken). IsNeedAnswer s entries o) (sym names.1)
    (inr (names.2, never, subst (λ (n : ℕ). IsFirst (Lacks s entries) (Some n)) (sym names.3) first))
