-- What is found below and above a path by halving, and what it says of dirt.
use Rattle.std.proofs.Common.{◌≡◌, ◌≢◌, ◌⊎◌, ◌↔◌, ℕ, ◌+◌, ◌-◌, ◌<◌, ◌≤◌, Bool, true, false, List, ◌++◌, length, get_or, Contains, Less, refl, sym, ap, ◌∙◌, subst, inl, inr, arith, IsTrue, not}
use Rattle.std.proofs.lemmas.Bool.{cases_lt, cases_order}
use Rattle.std.proofs.lemmas.List.Elements.{at_read}
use Rattle.std.specs.List.{AllWithin, HoldsAt}
use Rattle.std.proofs.lemmas.List.{get_or_default}
use Rattle.std.specs.List.Sorted.{IsPartitionedBy, IsPartitionPoint}
use Rattle.std.specs.Ordering.{is_lt}
use Rattle.ts_name.specs.Paths.{Path, IsAbove, IsBefore, path_cmp}
use Rattle.ts_model.specs.Trees.{sub}
use Rattle.ts_model.specs.Sync.{Snapshot, Agree, IsChanged, TouchesHeld}
use Rattle.ts_model.specs.declared.row.Content.{Content}
use Rattle.ts_model.specs.declared.row.Stamp.{Stamp}
use Rattle.ts_model.specs.declared.plan.Side.TheVariants as side
use Rattle.ts_dirty.specs.Found.{AreAscending, AreTopmost, HasBelow, HasAbove, Found, IsFoundOf}
use Rattle.ts_name.proofs.Order.{before_trans, before_cases, before_turned, is_lt_Less}
use Rattle.ts_name.proofs.Prefixes.{above_itself, above_trans, above_either}
use Rattle.ts_print.proofs.Order.{above_upto, above_between}
use Rattle.ts_model.proofs.Deciding.{same_stamp_at}

-- ---- by halving

-- of ascending paths those before a path are the first ones
pub before_front : (ps : List Path) (p : Path) → AreAscending ps → IsPartitionedBy (λ y. is_lt (path_cmp y p)) ps
before_front ps p ascending i j d le l h = elim (cases_lt i j) [
  | inl less ↦ let before : IsBefore (get_or ps i d) (get_or ps j d) = ascending i j d less l in
      let e : path_cmp (get_or ps i d) p ≡ Less = before_trans _ _ p before (is_lt_Less _ h) in rw e refl
  | inr more ↦ let same : j ≡ i = omega arith in subst (λ (k : ℕ). is_lt (path_cmp (get_or ps k d) p) ≡ true) same h
]

-- so a place parts those before the path from the others
pub place_parts : (ps : List Path) (p : Path) (at : ℕ) → IsPartitionPoint (λ y. is_lt (path_cmp y p) ≡ true) (λ y. is_lt (path_cmp y p) ≡ false) ps at
    → IsPartitionPoint (λ q. IsBefore q p) (λ q. ¬ IsBefore q p) ps at
place_parts ps p at parts = (
  λ k d l h. is_lt_Less _ (parts.0 k d l h),
  λ k d l h before. let e : path_cmp (get_or ps k d) p ≡ Less = before in let f : is_lt (path_cmp (get_or ps k d) p) ≡ true = rw e refl in true_not_false (sym f ∙ parts.1 k d l h),
)
  where
    true_not_false : true ≢ false
    true_not_false e = cc

abbrev IsPlace : List Path → Path → ℕ → Type 0
IsPlace ps p at = IsPartitionPoint (λ q. IsBefore q p) (λ q. ¬ IsBefore q p) ps at

-- ---- from an earlier place on

-- where the last of the first paths comes before p, they all do
pub all_before : (ps : List Path) (p : Path) (n : ℕ) (x : Path) → AreAscending ps → 0 < n → n ≤ length ps → x ≡ get_or ps (n - 1) x → IsBefore x p → AllWithin (λ q. IsBefore q p) ps 0 n
all_before ps p n x ascending some le is less k d low high = elim (cases_lt k (n - 1)) [
  | inl lower ↦ before_trans (get_or ps k d) (get_or ps (n - 1) d) p (ascending k (n - 1) d lower (omega arith)) last
  | inr not_lower ↦ let same : k ≡ n - 1 = omega arith in subst (λ (i : ℕ). IsBefore (get_or ps i d) p) (sym same) last
]
  where
    last : IsBefore (get_or ps (n - 1) d) p
    last = subst (λ (z : Path). IsBefore z p) (is ∙ get_or_default ps (n - 1) x d (omega arith)) less

-- where the next one doesn't come before p, none of the others does
pub parts_here : (ps : List Path) (p : Path) (n : ℕ) (x : Path) → AreAscending ps → AllWithin (λ q. IsBefore q p) ps 0 n → n < length ps → x ≡ get_or ps n x → ¬ IsBefore x p → IsPlace ps p n
parts_here ps p n x ascending front lt is not_less = (
  front,
  λ k d low high less. elim (cases_lt n k) [
    | inl beyond ↦ here d (before_trans (get_or ps n d) (get_or ps k d) p (ascending n k d beyond high) less)
    | inr not_beyond ↦ here d (let same : n ≡ k = omega arith in subst (λ (i : ℕ). IsBefore (get_or ps i d) p) (sym same) less)
  ],
)
  where
    here : (d : Path) → ¬ IsBefore (get_or ps n d) p
    here d less = not_less (subst (λ (z : Path). IsBefore z p) (sym (is ∙ get_or_default ps n x d lt)) less)

-- the path at a place, where it is at or below p
pub below_found : (ps : List Path) (p : Path) (at : ℕ) (x : Path) → at < length ps → x ≡ get_or ps at x → IsAbove p x → HasBelow ps p
below_found ps p at x l is above = (x, (at, l, sym is), above)

-- none is, where the one at the place is not
pub below_none : (ps : List Path) (p : Path) (at : ℕ) → AreAscending ps → IsPlace ps p at → (at < length ps → HoldsAt (λ x. ¬ IsAbove p x) ps at) → ¬ HasBelow ps p
below_none ps p at ascending parts n found = go found.0 found.1.0 found.1.1 found.1.2 found.2 (cases_order found.1.0 at)
  where
    go : (q : Path) (k : ℕ) → k < length ps → get_or ps k q ≡ q → IsAbove p q → (k ≡ at) ⊎ ((k < at) ⊎ (at < k)) → ⊥
    go q k l is above (inl e) =
        let in' : at < length ps = subst (λ (i : ℕ). i < length ps) e l in
        n in' q (subst (λ (z : Path). IsAbove p z) (sym is ∙ ap (λ (i : ℕ). get_or ps i q) e) above)
    go q k l is above (inr (inl less)) = above_upto p q above (subst (λ (z : Path). IsBefore z p) is (parts.0 k q (omega arith) less))
    go q k l is above (inr (inr less)) =
        let in' : at < length ps = omega arith in
        let before : IsBefore (get_or ps at q) q = subst (λ (z : Path). IsBefore (get_or ps at q) z) is (ascending at k q less l) in
        n in' q (above_between p (get_or ps at q) q above (parts.1 at q (omega arith) in') (before_turned (get_or ps at q) q before))

-- the path before the place, where it is above p
pub above_found : (ps : List Path) (p : Path) (at : ℕ) (x : Path) → 0 < at → at ≤ length ps → x ≡ get_or ps (at - 1) x → IsAbove x p → HasAbove ps p
above_found ps p at x some l is above = (x, (at - 1, omega arith, sym is), above)

-- none is at or above p, where none is at or below it, and the one before the place is not above it
pub above_none : (ps : List Path) (p : Path) (at : ℕ) → at ≤ length ps → AreAscending ps → AreTopmost ps → IsPlace ps p at → (0 < at → HoldsAt (λ x. ¬ IsAbove x p) ps (at - 1)) → ¬ HasBelow ps p → ¬ HasAbove ps p
above_none ps p at bound ascending topmost parts n none found = go found.0 found.1.0 found.1.1 found.1.2 found.2 (cases_order (found.1.0 + 1) at)
  where
    go : (q : Path) (k : ℕ) → k < length ps → get_or ps k q ≡ q → IsAbove q p → (k + 1 ≡ at) ⊎ ((k + 1 < at) ⊎ (at < k + 1)) → ⊥
    go q k l is above (inl e) =
        let same : k ≡ at - 1 = omega arith in
        n (omega arith) q (subst (λ (z : Path). IsAbove z p) (sym is ∙ ap (λ (i : ℕ). get_or ps i q) same) above)
    go q k l is above (inr (inl less)) =
        let last : ℕ = at - 1 in
        let k_last : k < at - 1 = omega arith in
        let in' : at - 1 < length ps = omega arith in
        let later : IsBefore q (get_or ps (at - 1) q) = subst (λ (z : Path). IsBefore z (get_or ps (at - 1) q)) is (ascending k (at - 1) q k_last in') in
        let before : IsBefore (get_or ps (at - 1) q) p = parts.0 (at - 1) q (omega arith) (omega arith) in
        topmost k (at - 1) q k_last in' (subst (λ (z : Path). IsAbove z (get_or ps (at - 1) q)) (sym is) (above_between q (get_or ps (at - 1) q) p above (before_turned q _ later) (before_turned _ p before)))
    go q k l is above (inr (inr less)) =
        let later : ¬ IsBefore q p = subst (λ (z : Path). ¬ IsBefore z p) is (parts.1 k q (omega arith) l) in
        same_or q k l is above later (before_cases q p)
      where
        same_or : (q : Path) (k : ℕ) → k < length ps → get_or ps k q ≡ q → IsAbove q p → ¬ IsBefore q p → IsBefore q p ⊎ ((q ≡ p) ⊎ IsBefore p q) → ⊥
        same_or q k l is above later (inl less) = later less
        same_or q k l is above later (inr (inl e)) = none (q, (k, l, is), subst (λ (z : Path). IsAbove p z) (sym e) (above_itself p))
        same_or q k l is above later (inr (inr less)) = above_upto q p above less

-- what is not false is true
true_from : (b : Bool) → b ≢ false → b ≡ true
true_from true n = refl
true_from false n = absurd (n refl)

-- a test that fails doesn't hold
pub false_not_true : (b : Bool) → b ≡ false → b ≢ true
false_not_true true e f = cc
false_not_true false e f = cc

-- a test of the path at the place tells whether one is at or below p
pub below_tested : (ps : List Path) (p : Path) (at : ℕ) (x : Path) (b : Bool) → AreAscending ps → IsPlace ps p at → at < length ps → x ≡ get_or ps at x → (IsTrue b ↔ IsAbove p x) → IsTrue b ↔ HasBelow ps p
below_tested ps p at x b ascending parts l is test = (
  λ h. below_found ps p at x l is (test.0 h),
  λ found. true_from b (λ e. below_none ps p at ascending parts (λ _. at_read ps (λ y. ¬ IsAbove p y) at x l is (λ above. false_not_true b e (test.1 above))) found),
)

-- past the end none is
pub below_past : (ps : List Path) (p : Path) (at : ℕ) → AreAscending ps → IsPlace ps p at → length ps ≤ at → IsTrue false ↔ HasBelow ps p
below_past ps p at ascending parts l = (λ e. absurd (false_not_true false refl e), λ found. absurd (below_none ps p at ascending parts (λ more. absurd (omega arith)) found))

-- a test of the path before the place tells whether one is above p
pub above_tested : (ps : List Path) (p : Path) (at : ℕ) (x : Path) (b : Bool) → AreAscending ps → AreTopmost ps → IsPlace ps p at → ¬ HasBelow ps p → 0 < at → at ≤ length ps → x ≡ get_or ps (at - 1) x → (IsTrue b ↔ IsAbove x p)
    → IsTrue b ↔ HasAbove ps p
above_tested ps p at x b ascending topmost parts none some bound is test = (
  λ h. above_found ps p at x some bound is (test.0 h),
  λ found. true_from b (λ e. above_none ps p at bound ascending topmost parts (λ _. let l : at - 1 < length ps = omega arith in at_read ps (λ y. ¬ IsAbove y p) (at - 1) x l is (λ above. false_not_true b e (test.1 above))) none found),
)

-- before the first none is
pub above_first : (ps : List Path) (p : Path) (at : ℕ) → AreAscending ps → AreTopmost ps → IsPlace ps p at → ¬ HasBelow ps p → at ≤ 0 → IsTrue false ↔ HasAbove ps p
above_first ps p at ascending topmost parts none l =
    (λ e. absurd (false_not_true false refl e), λ found. absurd (above_none ps p at (omega arith) ascending topmost parts (λ more. absurd (omega arith)) none found))

-- ---- what is found says what is dirty

-- paths where two prints differ tell whether they differ below a path
pub differ_below : (t u : Path → Content Stamp) (ps : List Path) (p : Path) → ((q : Path) → Contains ps q ↔ (t q ≢ u q)) → HasBelow ps p ↔ ((rest : Path) × (sub t p rest ≢ sub u p rest))
differ_below t u ps p all = (
  λ h. (h.2.0, λ e. (all h.0).0 h.1 (ap t h.2.1 ∙ e ∙ sym (ap u h.2.1))),
  λ h. (p ++ h.0, (all (p ++ h.0)).1 h.1, (h.0, refl)),
)

-- the replicas agree where they don't differ below
pub says_agree : (s : Snapshot) (m : Found) (p : Path) → IsFoundOf s m → (b : Bool) → (IsTrue b ↔ HasBelow m.apart p) → IsTrue (not b) ↔ Agree s p
says_agree s m p h true is = (λ e. absurd (not_true e), λ agree. absurd (found.1 (ap (λ (t : Path → Content Stamp). t found.0) agree)))
  where
    found : (rest : Path) × (sub s.first p rest ≢ sub s.second p rest)
    found = (differ_below s.first s.second m.apart p h.apart).0 (is.0 refl)

    not_true : not true ≢ true
    not_true e = cc
says_agree s m p h false is = (λ e. by_each, λ agree. refl)
  where
    false_true : false ≢ true
    false_true e = cc

    none : (rest : Path) → sub s.first p rest ≡ sub s.second p rest
    none rest = elim (same_stamp_at (sub s.first p rest) (sub s.second p rest)) [
      | yes e ↦ e
      | no n ↦ absurd (false_true (is.1 ((differ_below s.first s.second m.apart p h.apart).1 (rest, n))))
    ]

    by_each : Agree s p
    by_each = λ i. λ rest. none rest i

-- held paths near a path
pub says_touches : (s : Snapshot) (m : Found) (p : Path) → IsFoundOf s m → (HasAbove m.held p ⊎ HasBelow m.held p) ↔ TouchesHeld s p
says_touches s m p h = (to, from)
  where
    to : HasAbove m.held p ⊎ HasBelow m.held p → TouchesHeld s p
    to (inl found) = (found.0, h.held found.0 found.1, inl found.2)
    to (inr found) = (found.0, h.held found.0 found.1, inr found.2)

    from : TouchesHeld s p → HasAbove m.held p ⊎ HasBelow m.held p
    from t = near t.2 (h.covered t.0 t.1)
      where
        near : IsAbove t.0 p ⊎ IsAbove p t.0 → HasAbove m.held t.0 → HasAbove m.held p ⊎ HasBelow m.held p
        near (inl above) top = inl (top.0, top.1, above_trans top.0 t.0 p top.2 above)
        near (inr under) top = elim (above_either top.0 p t.0 top.2 under) [
          | inl above ↦ inl (top.0, top.1, above)
          | inr below ↦ inr (top.0, top.1, below)
        ]

-- ---- the same of marks that are seen whole

pub changed_first : (s : Snapshot) (m now : Found) (ps : List Path) (p : Path) (b : Bool) → IsFoundOf s now → m ≡ now → ps ≡ m.first → (IsTrue b ↔ HasBelow ps p) → IsTrue b ↔ IsChanged s side.First p
changed_first s m now ps p b found same e test =
    let has : HasBelow ps p ↔ IsChanged s side.First p = subst (λ (qs : List Path). HasBelow qs p ↔ IsChanged s side.First p) (sym (e ∙ ap (λ (n : Found). n.first) same)) (differ_below s.first s.archive now.first p found.first) in
    (λ h. has.0 (test.0 h), λ h. test.1 (has.1 h))

pub changed_second : (s : Snapshot) (m now : Found) (ps : List Path) (p : Path) (b : Bool) → IsFoundOf s now → m ≡ now → ps ≡ m.second → (IsTrue b ↔ HasBelow ps p) → IsTrue b ↔ IsChanged s side.Second p
changed_second s m now ps p b found same e test =
    let has : HasBelow ps p ↔ IsChanged s side.Second p = subst (λ (qs : List Path). HasBelow qs p ↔ IsChanged s side.Second p) (sym (e ∙ ap (λ (n : Found). n.second) same)) (differ_below s.second s.archive now.second p found.second) in
    (λ h. has.0 (test.0 h), λ h. test.1 (has.1 h))

pub agree_from : (s : Snapshot) (m now : Found) (ps : List Path) (p : Path) (b : Bool) → IsFoundOf s now → m ≡ now → ps ≡ m.apart → (IsTrue b ↔ HasBelow ps p) → IsTrue (not b) ↔ Agree s p
agree_from s m now ps p b found same e test =
    says_agree s now p found b (subst (λ (qs : List Path). IsTrue b ↔ HasBelow qs p) (e ∙ ap (λ (n : Found). n.apart) same) test)

pub touches_from : (s : Snapshot) (m now : Found) (ps : List Path) (p : Path) (b : Bool) → IsFoundOf s now → m ≡ now → ps ≡ m.held → (IsTrue b ↔ (HasAbove ps p ⊎ HasBelow ps p)) → IsTrue b ↔ TouchesHeld s p
touches_from s m now ps p b found same e test =
    let has = says_touches s now p found in
    let seen : IsTrue b ↔ (HasAbove now.held p ⊎ HasBelow now.held p) = subst (λ (qs : List Path). IsTrue b ↔ (HasAbove qs p ⊎ HasBelow qs p)) (e ∙ ap (λ (n : Found). n.held) same) test in
    (λ h. has.0 (seen.0 h), λ h. seen.1 (has.1 h))
