-- The entries that a walk over an archive and two replicas has gathered so far.
use Rattle.std.proofs.Common.{◌≡◌, ◌≢◌, ◌⊎◌, ◌↔◌, ℕ, ◌+◌, ◌-◌, ◌<◌, ◌≤◌, min, Bool, true, false, cond, List, [], ◌∷◌, ◌++◌, length, length-append, get_or, Contains, Option, Some, None, refl, sym, ap, ◌∙◌, subst, inl, inr, arith, IsTrue, append-nil, append_assoc}
use Rattle.std.proofs.lemmas.List.Elements.{Contains-push, Contains-append_left}
use Rattle.ts_name.specs.Paths.{Name, Path, IsAbove, IsBefore}
use Rattle.ts_model.specs.Trees.{Listing, at, IsListing}
use Rattle.ts_model.specs.Sync.{Snapshot, listed_snapshot, AreBothDirs, IsBelowDirs, HasReason}
use Rattle.ts_model.specs.declared.hold.Rule.{Rule}
use Rattle.ts_model.specs.declared.row.Content.{Content}
use Rattle.ts_model.specs.declared.row.Content.TheVariants.{Absent, Dir}
use Rattle.ts_model.specs.declared.row.Stamp.{Stamp}
use Rattle.ts_model.specs.declared.plan.Entry.{Entry}
use Rattle.ts_model.specs.declared.plan.Reason.{Reason}
use Rattle.ts_print.specs.Walks.{IsLeft, IsThere, IsWalkStep, Left}
use Rattle.ts_name.proofs.Order.{decide_before, before_turned, before_below}
use Rattle.ts_name.proofs.Prefixes.{above_trans, last_name, snoc_not_empty, same_parent, snoc_not_empty}
use Rattle.ts_print.proofs.Order.{above_between}
use Rattle.ts_print.proofs.Walks.{left_all, left_none, step_forward, step_left, step_there, step_between}
use Rattle.ts_dirty.proofs.Upto.{upto_later, upto_next, upto_root, ascending_more, each_more}
use Rattle.ts_recon.specs.Reasons.{AreReasons, IsReasonOf, IsSeen, with_reason}
use Rattle.ts_model.proofs.Reasons.{one_because, nothing_no_reason}
use Rattle.ts_model.proofs.Rows.{dir_is_there}
use Rattle.ts_model.proofs.Deciding.{same_stamp_at}

-- ---- paths

-- what is above a path is it or above its parent
above_child : (q parent : Path) (name : Name) → IsAbove q (parent ++ name ∷ []) → (q ≡ parent ++ name ∷ []) ⊎ IsAbove q parent
above_child q parent name h = elim (last_name h.0) [
  | inl e ↦ inl (sym (append-nil q) ∙ ap (λ (z : Path). q ++ z) (sym e) ∙ sym h.1)
  | inr c ↦ inr (c.0, same_parent parent (q ++ c.0) name c.1 (h.1 ∙ ap (λ (z : Path). q ++ z) c.2 ∙ sym (append_assoc q c.0 (c.1 ∷ []))))
]

-- what is above a path is no longer
above_length : (q p : Path) → IsAbove q p → length q ≤ length p
above_length q p h = let e : length p ≡ length (q ++ h.0) = ap length h.1 in omega (arith, e, length-append q h.0)

-- ---- trees

-- whatever is strictly above something is a directory
rooted : (rows : Listing Stamp) → IsListing rows → (p : Path) (name : Name) (rest : Path) → at rows (p ++ name ∷ rest) ≢ Absent → at rows p ≡ Dir
rooted rows lists p name [] there = lists.parents p name there
rooted rows lists p name (next ∷ rest) there = lists.parents p name (λ e.
    let below_dir : at rows (p ++ name ∷ []) ≡ Dir = rooted rows lists (p ++ name ∷ []) next rest (λ f. there (ap (at rows) (sym (append_assoc p (name ∷ []) (next ∷ rest))) ∙ f)) in
    dir_is_there (at rows (p ++ name ∷ [])) below_dir e)

-- at and below what is absent there is nothing
absent_below : (rows : Listing Stamp) → IsListing rows → (p rest : Path) → at rows p ≡ Absent → at rows (p ++ rest) ≡ Absent
absent_below rows lists p [] e = ap (at rows) (append-nil p) ∙ e
absent_below rows lists p (name ∷ rest) e = elim (same_stamp_at (at rows (p ++ name ∷ rest)) Absent) [
  | yes f ↦ f
  | no there ↦ absurd (dir_is_there (at rows p) (rooted rows lists p name rest there) e)
]

-- ---- gathered entries

-- the entries up to b
pub record IsGathered (s : Snapshot) (b : Path) (entries : List Entry) : Type 0 where
  pub ascending : (i j : ℕ) (d : Entry) → i < j → j < length entries → IsBefore (get_or entries i d).path (get_or entries j d).path
  pub each : (e : Entry) → Contains entries e → HasReason s e.path e.reason × (¬ IsBefore b e.path)
  pub all : (p : Path) (r : Reason) → HasReason s p r → ¬ IsBefore b p → Contains entries (record { path = p; reason = r })

-- one more path, with what was found of it
pub gathered_step : (s : Snapshot) (b p : Path) (entries : List Entry) (found : Option Reason) → ((x y : Reason) → HasReason s p x → HasReason s p y → x ≡ y) → IsGathered s b entries → IsBefore b p
    → ((q : Path) (r : Reason) → IsBefore b q → IsBefore q p → ¬ HasReason s q r) → IsReasonOf s p found → IsGathered s p (with_reason entries p found)
gathered_step s b p entries None one h less none is = record {
  ascending = h.ascending;
  each = λ e c. ((h.each e c).0, upto_later b p e.path less (h.each e c).1);
  all = λ q r. upto_next (λ z. HasReason s z r) (λ z. Contains entries (record { path = z; reason = r })) b p (λ z after before. none z r after before) (λ z. h.all z r) (λ has. absurd (is r has)) q;
}
gathered_step s b p entries (Some x) one h less none is = record {
  ascending = ascending_more (λ e. e.path) (λ e. HasReason s e.path e.reason) b new entries less h.each h.ascending;
  each = each_more (λ e. e.path) (λ e. HasReason s e.path e.reason) b new entries less h.each is;
  all = λ q r. upto_next (λ z. HasReason s z r) (λ z. Contains (entries ++ new ∷ []) (record { path = z; reason = r })) b p (λ z after before. none z r after before)
      (λ z has m. Contains-append_left entries (new ∷ []) (record { path = z; reason = r }) (h.all z r has m))
      (λ has. subst (λ (y : Reason). Contains (entries ++ new ∷ []) (record { path = p; reason = y })) (one x r is has) (Contains-push entries new)) q;
}
  where
    new : Entry
    new = record { path = p; reason = x }

-- ---- a walk over an archive and two replicas

-- what was gathered up to the path b, with this left; b leads down as many directories of both replicas
pub record IsReasoned (A F S : Listing Stamp) (rules : List Rule) (left : Left) (shared : ℕ) (entries : List Entry) : Type 0 where
  pub b : Path
  pub is_left : IsLeft A F S b left
  pub leads : (q : Path) → IsAbove q b → AreBothDirs (at F) (at S) q ↔ (length q ≤ shared)
  pub gathered : IsGathered (listed_snapshot A F S rules) b entries

module _ (A F S : Listing Stamp) (rules : List Rule) (lists_a : IsListing A) (lists_f : IsListing F) (lists_s : IsListing S) where
  abbrev s : Snapshot
  s = listed_snapshot A F S rules

  -- what is nowhere has no reason
  pub no_reason : (p : Path) → at A p ≡ Absent → at F p ≡ Absent → at S p ≡ Absent → (r : Reason) → ¬ HasReason s p r
  no_reason p a f e r has =
      nothing_no_reason s p (λ rest. absent_below F lists_f p rest f) (λ rest. absent_below S lists_s p rest e) (λ rest. absent_below A lists_a p rest a) r has.1

  not_before_root : (p : Path) → ¬ IsBefore p []
  not_before_root [] h = cc
  not_before_root (x ∷ p) h = cc

  pub record AtStep (w_b p : Path) (shared : ℕ) (c_archive c_first c_second : Content Stamp) : Type 0 where
    pub less : IsBefore w_b p
    pub here : IsThere A F S p c_archive c_first c_second
    pub parent : Path
    pub name : Name
    pub is_child : p ≡ parent ++ name ∷ []
    pub parent_above : IsAbove parent w_b
    pub leads : (q : Path) → IsAbove q w_b → AreBothDirs (at F) (at S) q ↔ (length q ≤ shared)

  -- the length of a child
  child_length : (p parent : Path) (name : Name) → p ≡ parent ++ name ∷ [] → length p ≡ length parent + 1
  child_length p parent name e = let f : length p ≡ length (parent ++ name ∷ []) = ap length e in omega (arith, f, length-append parent (name ∷ []))

  -- a step's path is relevant by its length
  pub step_relevant : (b p : Path) (shared : ℕ) (ca cf cs : Content Stamp) → AtStep b p shared ca cf cs → IsBelowDirs (at F) (at S) p ↔ (length p - 1 ≤ shared)
  step_relevant b p shared ca cf cs h = (
    λ below.
        let same : below.0 ≡ h.parent = same_parent below.0 h.parent below.1 h.name (sym below.2 ∙ h.is_child) in
        let le : length h.parent ≤ shared = (h.leads h.parent h.parent_above).0 (subst (λ (z : Path). AreBothDirs (at F) (at S) z) same below.3) in
        let n : length p ≡ length h.parent + 1 = child_length p h.parent h.name h.is_child in omega arith,
    λ le.
        let n : length p ≡ length h.parent + 1 = child_length p h.parent h.name h.is_child in
        let le' : length h.parent ≤ shared = omega arith in
        (h.parent, h.name, h.is_child, (h.leads h.parent h.parent_above).1 le'),
  )

  -- how far it leads down
  pub step_leads : (b p : Path) (shared : ℕ) (ca cf cs : Content Stamp) (is_shared : Bool) → AtStep b p shared ca cf cs → (IsTrue is_shared ↔ ((cf ≡ Dir) × (cs ≡ Dir))) → (q : Path) → IsAbove q p
      → AreBothDirs (at F) (at S) q ↔ (length q ≤ cond is_shared (length p) (min shared (length p - 1)))
  step_leads b p shared ca cf cs is_shared h is q above = go is_shared is (above_child q h.parent h.name (subst (λ (z : Path). IsAbove q z) h.is_child above))
    where
      n : length p ≡ length h.parent + 1
      n = child_length p h.parent h.name h.is_child

      down : (rows : Listing Stamp) → IsListing rows → at rows p ≡ Dir → IsAbove q h.parent → at rows q ≡ Dir
      down rows lists dir up = leads up.0 up.1
        where
          leads : (rest : Path) → h.parent ≡ q ++ rest → at rows q ≡ Dir
          leads [] e = lists.parents q h.name (λ g. dir_is_there (at rows p) dir (ap (at rows) (h.is_child ∙ ap (λ (z : Path). z ++ h.name ∷ []) (e ∙ append-nil q)) ∙ g))
          leads (m ∷ rest) e = rooted rows lists q m (rest ++ h.name ∷ []) (λ g. dir_is_there (at rows p) dir (ap (at rows) (h.is_child ∙ ap (λ (z : Path). z ++ h.name ∷ []) e ∙ append_assoc q (m ∷ rest) (h.name ∷ [])) ∙ g))

      go : (is_shared : Bool) → (IsTrue is_shared ↔ ((cf ≡ Dir) × (cs ≡ Dir))) → (q ≡ h.parent ++ h.name ∷ []) ⊎ IsAbove q h.parent → AreBothDirs (at F) (at S) q ↔ (length q ≤ cond is_shared (length p) (min shared (length p - 1)))
      go true is (inl e) =
          let same : q ≡ p = e ∙ sym h.is_child in
          let both = is.0 refl in
          (λ _. let l : length q ≡ length p = ap length same in omega arith, λ _. (ap (at F) same ∙ h.here.first ∙ both.0, ap (at S) same ∙ h.here.second ∙ both.1))
      go true is (inr up) =
          let both = is.0 refl in
          (λ _. let l : length q ≤ length h.parent = above_length q h.parent up in omega (arith, n), λ _. (down F lists_f (h.here.first ∙ both.0) up, down S lists_s (h.here.second ∙ both.1) up))
      go false is (inl e) =
          let same : q ≡ p = e ∙ sym h.is_child in (
            λ dirs. absurd (false_true (is.1 (sym h.here.first ∙ ap (at F) (sym same) ∙ dirs.0, sym h.here.second ∙ ap (at S) (sym same) ∙ dirs.1))),
            λ le. absurd (let l : length q ≡ length p = ap length same in omega (arith, n)),
          )
        where
          false_true : false ≢ true
          false_true g = cc
      go false is (inr up) =
          let old = h.leads q (above_trans q h.parent b up h.parent_above) in
          let l : length q ≤ length h.parent = above_length q h.parent up in
          (λ dirs. let le : length q ≤ shared = old.0 dirs in omega (arith, n), λ le. old.1 (let le' : length q ≤ shared = omega arith in le'))

  -- a walk's step goes on from what was gathered
  pub at_step : (old new : Left) (shared : ℕ) (entries : List Entry) (p : Path) (ca cf cs : Content Stamp) (w : IsReasoned A F S rules old shared entries) → IsWalkStep p ca cf cs old new → AtStep w.b p shared ca cf cs
  at_step old new shared entries p ca cf cs w step = record {
    less = less;
    here = here;
    parent = named.0;
    name = named.1;
    is_child = named.2;
    parent_above = parent_above;
    leads = w.leads;
  }
    where
      less : IsBefore w.b p
      less = step_forward A F S w.b p ca cf cs old new w.is_left step

      here : IsThere A F S p ca cf cs
      here = step_there A F S w.b p ca cf cs old new w.is_left step

      named : (parent : Path) × (name : Name) × (p ≡ parent ++ name ∷ [])
      named = elim (last_name p) [
        | inl e ↦ absurd (not_before_root w.b (subst (λ (z : Path). IsBefore w.b z) e less))
        | inr found ↦ found
      ]

      child_before : IsBefore named.0 p
      child_before = subst (λ (z : Path). IsBefore named.0 z) (sym named.2) (before_below named.0 named.1 [])

      -- in the tree where p is, the parent is a directory, so no step leaves it out
      none_between : ¬ IsBefore w.b named.0
      none_between later = elim step.some [
        | inl there ↦ parent_there A lists_a ca here.archive there nothing.archive
        | inr more ↦ elim more [
          | inl there ↦ parent_there F lists_f cf here.first there nothing.first
          | inr there ↦ parent_there S lists_s cs here.second there nothing.second
        ]
      ]
        where
          nothing : IsThere A F S named.0 Absent Absent Absent
          nothing = step_between A F S w.b p ca cf cs old new w.is_left step named.0 later child_before

          parent_there : (rows : Listing Stamp) → IsListing rows → (c : Content Stamp) → at rows p ≡ c → c ≢ Absent → at rows named.0 ≢ Absent
          parent_there rows lists c is there = dir_is_there (at rows named.0) (lists.parents named.0 named.1 (λ g. there (sym is ∙ ap (at rows) named.2 ∙ g)))

      parent_above : IsAbove named.0 w.b
      parent_above = above_between named.0 w.b p (named.1 ∷ [], named.2) none_between (before_turned w.b p less)

  -- what the step sees
  pub step_seen : (b p : Path) (shared : ℕ) (ca cf cs : Content Stamp) → AtStep b p shared ca cf cs → IsSeen s p ca cf cs
  step_seen b p shared ca cf cs h = record { in_archive = h.here.archive; in_first = h.here.first; in_second = h.here.second }

  pub reasoned_step : (old new : Left) (shared next : ℕ) (entries more : List Entry) (p : Path) (ca cf cs : Content Stamp) (found : Option Reason) (is_shared : Bool)
      → IsReasoned A F S rules old shared entries → IsWalkStep p ca cf cs old new
      → (IsSeen s p ca cf cs → (IsBelowDirs (at F) (at S) p ↔ (length p - 1 ≤ shared)) → IsReasonOf s p found) → more ≡ with_reason entries p found
      → (IsTrue is_shared ↔ ((cf ≡ Dir) × (cs ≡ Dir))) → next ≡ cond is_shared (length p) (min shared (length p - 1))
      → IsReasoned A F S rules new next more
  reasoned_step old new shared next entries more p ca cf cs found is_shared w step is e_more is_dirs e_next = record {
    b = p;
    is_left = step_left A F S w.b p ca cf cs old new w.is_left step;
    leads = λ q above. subst (λ (n : ℕ). AreBothDirs (at F) (at S) q ↔ (length q ≤ n)) (sym e_next) (step_leads w.b p shared ca cf cs is_shared here is_dirs q above);
    gathered = subst (λ (es : List Entry). IsGathered s p es) (sym e_more)
        (gathered_step s w.b p entries found (λ x y has_x has_y. one_because s p x y has_x.1 has_y.1) w.gathered here.less none (is (step_seen w.b p shared ca cf cs here) (step_relevant w.b p shared ca cf cs here)));
  }
    where
      here : AtStep w.b p shared ca cf cs
      here = at_step old new shared entries p ca cf cs w step

      none : (q : Path) (r : Reason) → IsBefore w.b q → IsBefore q p → ¬ HasReason s q r
      none q r after before = let nothing = step_between A F S w.b p ca cf cs old new w.is_left step q after before in no_reason q nothing.archive nothing.first nothing.second r

  -- the beginning
  pub reasoned_start : (walk : Left) (shared : ℕ) (entries : List Entry) → walk ≡ record { archive = A; first = F; second = S } → shared ≡ 0 → entries ≡ [] → IsReasoned A F S rules walk shared entries
  reasoned_start walk shared entries e_w e_n e_e =
      subst (λ (l : Left). IsReasoned A F S rules l shared entries) (sym e_w) (subst (λ (n : ℕ). IsReasoned A F S rules (record { archive = A; first = F; second = S }) n entries) (sym e_n)
      (subst (λ (es : List Entry). IsReasoned A F S rules (record { archive = A; first = F; second = S }) 0 es) (sym e_e) begin))
    where
      root_only : (q : Path) → IsAbove q [] → q ≡ []
      root_only [] h = refl
      root_only (x ∷ q) h = absurd (let f : [] ≡ x ∷ (q ++ h.0) = h.1 in empty (q ++ h.0) f)
        where
          empty : (rest : Path) → ¬ ([] ≡ x ∷ rest)
          empty rest g = cc

      no_root : (r : Reason) → ¬ HasReason s [] r
      no_root r has = snoc_not_empty has.0.0 has.0.1 (sym has.0.2)

      begin : IsReasoned A F S rules (record { archive = A; first = F; second = S }) 0 []
      begin = record {
        b = [];
        is_left = left_all A F S lists_a lists_f lists_s;
        leads = λ q above. let e : q ≡ [] = root_only q above in (λ _. let l : length q ≡ 0 = ap length e in omega arith, λ _. (ap (at F) e, ap (at S) e));
        gathered = record {
          ascending = λ i j d less l. absurd (omega arith);
          each = λ e c. absurd (omega (arith, c.1));
          all = λ q r has n. absurd (upto_root (λ z. HasReason s z r) (no_root r) q has n);
        };
      }

  -- the end
  pub reasoned_end : (left : Left) (shared : ℕ) (entries : List Entry) → IsReasoned A F S rules left shared entries → (left.archive ≡ []) × (left.first ≡ []) × (left.second ≡ []) → AreReasons s entries
  reasoned_end left shared entries w ended = record {
    ascending = w.gathered.ascending;
    each = λ e c. (w.gathered.each e c).0;
    all = λ p r has. elim (decide_before w.b p) [
      | no n ↦ w.gathered.all p r has n
      | yes later ↦ (let nothing = left_none A F S w.b left w.is_left ended p later in absurd (no_reason p nothing.archive nothing.first nothing.second r has))
    ];
  }
