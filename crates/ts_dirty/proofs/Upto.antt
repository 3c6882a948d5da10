-- Paths that are gathered in path order, and what a walk over an archive and two replicas has found so far.
use Rattle.std.proofs.Common.{◌≡◌, ◌≢◌, ◌⊎◌, ◌↔◌, ℕ, ◌-◌, ◌<◌, Bool, true, false, cond, List, [], ◌∷◌, ◌++◌, length, length-append, get_or, Contains, refl, sym, ap, ◌∙◌, subst, inl, inr, arith, IsTrue}
use Rattle.std.proofs.lemmas.Bool.{cases_lt}
use Rattle.std.proofs.lemmas.List.{get_or_append_left, get_or_push, get_or_default}
use Rattle.std.proofs.lemmas.List.Elements.{Contains-get_or, Contains-push_cases, Contains-push, Contains-append_left}
use Rattle.ts_name.specs.Paths.{Path, IsAbove, IsBefore}
use Rattle.ts_dirty.specs.Found.{AreAscending, AreTopmost, HasAbove, LastIsAbove}
use Rattle.ts_model.specs.Trees.{Listing, at, IsListing}
use Rattle.ts_model.specs.Holds.{Names}
use Rattle.ts_model.specs.Texts.{IsRules}
use Rattle.ts_model.specs.Sync.{Snapshot, listed_snapshot, IsHeldIn}
use Rattle.ts_model.specs.declared.hold.Rule.{Rule}
use Rattle.ts_model.specs.declared.row.Content.{Content}
use Rattle.ts_model.specs.declared.row.Content.TheVariants.{Absent}
use Rattle.ts_model.specs.declared.row.Stamp.{Stamp}
use Rattle.ts_print.specs.Walks.{IsLeft, IsThere, IsWalkStep, Left}
use Rattle.ts_hold.proofs.Naming.{root_unnamed}
use Rattle.ts_dirty.specs.Found.{IsFoundOf}
use Rattle.ts_print.proofs.Walks.{nowhere_not_present, left_all, left_none, step_forward, step_left, step_there, step_between}
use Rattle.ts_name.proofs.Order.{before_itself, before_trans, before_cases, decide_before, before_turned}
use Rattle.ts_name.proofs.Prefixes.{above_itself}
use Rattle.ts_print.proofs.Order.{upto_before, above_between}

-- the paths up to b of which P holds
pub record IsUpto (P : Path → Type 0) (b : Path) (ps : List Path) : Type 0 where
  pub ascending : AreAscending ps
  pub each : (q : Path) → Contains ps q → P q × (¬ IsBefore b q)
  pub all : (q : Path) → P q → ¬ IsBefore b q → Contains ps q

-- the topmost ones of them
pub record IsTopUpto (P : Path → Type 0) (b : Path) (ps : List Path) : Type 0 where
  pub ascending : AreAscending ps
  pub topmost : AreTopmost ps
  pub each : (q : Path) → Contains ps q → P q × (¬ IsBefore b q)
  pub all : (q : Path) → P q → ¬ IsBefore b q → HasAbove ps q

-- what is in a list with one more at its end
push_get : {A : Type 0} (xs : List A) (x d : A) (i : ℕ) → i < length (xs ++ x ∷ []) → ((i < length xs) × (get_or (xs ++ x ∷ []) i d ≡ get_or xs i d)) ⊎ ((i ≡ length xs) × (get_or (xs ++ x ∷ []) i d ≡ x))
push_get xs x d i l = elim (cases_lt i (length xs)) [
  | inl less ↦ inl (less, get_or_append_left xs (x ∷ []) d i less)
  | inr more ↦ let same : i ≡ length xs = omega (arith, length-append xs (x ∷ [])) in
      inr (same, get_or_push xs x d i (sym same))
]

-- a relation of each with those after it, with one more at the end
pub push_pairs : {A : Type 0} (R : A → A → Type 0) (xs : List A) (x : A) → ((i j : ℕ) (d : A) → i < j → j < length xs → R (get_or xs i d) (get_or xs j d))
    → ((i : ℕ) (d : A) → i < length xs → R (get_or xs i d) x) → (i j : ℕ) (d : A) → i < j → j < length (xs ++ x ∷ []) → R (get_or (xs ++ x ∷ []) i d) (get_or (xs ++ x ∷ []) j d)
push_pairs {A} R xs x old more i j d less l = go (push_get xs x d j l)
  where
    go : ((j < length xs) × (get_or (xs ++ x ∷ []) j d ≡ get_or xs j d)) ⊎ ((j ≡ length xs) × (get_or (xs ++ x ∷ []) j d ≡ x)) → R (get_or (xs ++ x ∷ []) i d) (get_or (xs ++ x ∷ []) j d)
    go (inl h) =
        let in' : i < length xs = omega (arith, h.0) in
        subst (λ (y : A). R y (get_or (xs ++ x ∷ []) j d)) (sym (get_or_append_left xs (x ∷ []) d i in')) (subst (λ (y : A). R (get_or xs i d) y) (sym h.1) (old i j d less h.0))
    go (inr h) =
        let in' : i < length xs = omega (arith, h.0) in
        subst (λ (y : A). R y (get_or (xs ++ x ∷ []) j d)) (sym (get_or_append_left xs (x ∷ []) d i in')) (subst (λ (y : A). R (get_or xs i d) y) (sym h.1) (more i d in'))

-- up to b and not b: no later than any b after it
pub upto_later : (b p q : Path) → IsBefore b p → ¬ IsBefore b q → ¬ IsBefore p q
upto_later b p q less n more = n (before_trans b p q less more)

-- where q stands, of b and p after it
pub data Stands (b p q : Path) : Type 0 where
  upto : ¬ IsBefore b q → Stands b p q
  inside : IsBefore b q → IsBefore q p → Stands b p q
  same : q ≡ p → Stands b p q

pub stands : (b p q : Path) → ¬ IsBefore p q → Stands b p q
stands b p q n = elim (decide_before b q) [
  | no m ↦ upto m
  | yes less ↦ elim (before_cases q p) [
    | inl before ↦ inside less before
    | inr more ↦ elim more [ inl e ↦ same e | inr after ↦ absurd (n after) ]
  ]
]

-- nothing of P stands between b and p
abbrev pub NoneBetween : (Path → Type 0) → Path → Path → Type 0
NoneBetween P b p = (q : Path) → IsBefore b q → IsBefore q p → ¬ P q

-- what C says of the paths of P up to b, and of p, it says of those up to p
pub upto_next : (P C : Path → Type 0) (b p : Path) → NoneBetween P b p → ((q : Path) → P q → ¬ IsBefore b q → C q) → (P p → C p) → (q : Path) → P q → ¬ IsBefore p q → C q
upto_next P C b p none old here q is n = elim (stands b p q n) [
  | upto m ↦ old q is m
  | inside after before ↦ absurd (none q after before is)
  | same e ↦ subst C (sym e) (here (subst P e is))
]

-- up to the root there is the root alone
pub upto_root : (P : Path → Type 0) → ¬ P [] → (q : Path) → P q → ¬ IsBefore [] q → ⊥
upto_root P n [] is m = n is
upto_root P n (x ∷ q) is m = m refl

-- what has paths up to b, with one more
module _ {A : Type 0} (path : A → Path) (P : A → Type 0) (b : Path) (x : A) (xs : List A) (less : IsBefore b (path x)) (each : (y : A) → Contains xs y → P y × (¬ IsBefore b (path y))) where
  pub ascending_more : ((i j : ℕ) (d : A) → i < j → j < length xs → IsBefore (path (get_or xs i d)) (path (get_or xs j d)))
      → (i j : ℕ) (d : A) → i < j → j < length (xs ++ x ∷ []) → IsBefore (path (get_or (xs ++ x ∷ []) i d)) (path (get_or (xs ++ x ∷ []) j d))
  ascending_more old = push_pairs (λ (y z : A). IsBefore (path y) (path z)) xs x old (λ i d l. upto_before (path (get_or xs i d)) b (path x) (each (get_or xs i d) (Contains-get_or xs i d l)).1 less)

  pub each_more : P x → (y : A) → Contains (xs ++ x ∷ []) y → P y × (¬ IsBefore (path x) (path y))
  each_more here y c = elim (Contains-push_cases xs x y c) [
    | inl old ↦ ((each y old).0, upto_later b (path x) (path y) less (each y old).1)
    | inr e ↦ subst (λ (z : A). P z × (¬ IsBefore (path x) (path z))) e (here, before_itself (path x))
  ]

-- one more
upto_more : (P : Path → Type 0) (b p : Path) (ps : List Path) → IsUpto P b ps → IsBefore b p → NoneBetween P b p → P p → IsUpto P p (ps ++ p ∷ [])
upto_more P b p ps h less none here = record {
  ascending = ascending_more (λ q. q) P b p ps less h.each h.ascending;
  each = each_more (λ q. q) P b p ps less h.each here;
  all = upto_next P (Contains (ps ++ p ∷ [])) b p none (λ q is m. Contains-append_left ps (p ∷ []) q (h.all q is m)) (λ _. Contains-push ps p);
}

-- none more
upto_same : (P : Path → Type 0) (b p : Path) (ps : List Path) → IsUpto P b ps → IsBefore b p → NoneBetween P b p → ¬ P p → IsUpto P p ps
upto_same P b p ps h less none no_more = record {
  ascending = h.ascending;
  each = λ q c. ((h.each q c).0, upto_later b p q less (h.each q c).1);
  all = upto_next P (Contains ps) b p none h.all (λ here. absurd (no_more here));
}

-- the path by a test
pub upto_step : (P : Path → Type 0) (b p : Path) (old new : List Path) (test : Bool) → IsUpto P b old → IsBefore b p → NoneBetween P b p → (IsTrue test ↔ P p) → new ≡ cond test (old ++ p ∷ []) old → IsUpto P p new
upto_step P b p old new true h less none is e = subst (λ (ps : List Path). IsUpto P p ps) (sym e) (upto_more P b p old h less none (is.0 refl))
upto_step P b p old new false h less none is e = subst (λ (ps : List Path). IsUpto P p ps) (sym e) (upto_same P b p old h less none (λ here. let f : false ≡ true = is.1 here in cc))

-- no path yet
pub upto_none : (P : Path → Type 0) → ¬ P [] → IsUpto P [] []
upto_none P n = record {
  ascending = λ i j d less l. absurd (omega arith);
  each = λ q c. absurd (omega (arith, c.1));
  all = λ q is m. absurd (upto_root P n q is m);
}

-- at the end all
pub upto_end : (P : Path → Type 0) (b : Path) (ps : List Path) → IsUpto P b ps → ((q : Path) → IsBefore b q → ¬ P q) → (q : Path) → Contains ps q ↔ P q
upto_end P b ps h none q = (
  λ c. (h.each q c).0,
  λ is. elim (decide_before b q) [ yes later ↦ absurd (none q later is) | no n ↦ h.all q is n ],
)

-- ---- the topmost

-- the last of the paths is above whatever of them is above p
last_above : (ps : List Path) (p : Path) → AreAscending ps → AreTopmost ps → ((q : Path) → Contains ps q → IsBefore q p) → (i : ℕ) (d : Path) → i < length ps → IsAbove (get_or ps i d) p → LastIsAbove ps p
last_above ps p ascending topmost before i d l above = elim (cases_lt i (length ps - 1)) [
  | inr more ↦
      let same : i ≡ length ps - 1 = omega arith in
      let in' : length ps - 1 < length ps = omega arith in
      let some : 0 < length ps = omega arith in
      (get_or ps i d, some, ap (λ (k : ℕ). get_or ps k d) same ∙ get_or_default ps (length ps - 1) d (get_or ps i d) in', above)
  | inl less ↦
      let in' : length ps - 1 < length ps = omega arith in
      absurd (topmost i (length ps - 1) d less in'
      (above_between (get_or ps i d) (get_or ps (length ps - 1) d) p above
      (before_turned (get_or ps i d) (get_or ps (length ps - 1) d) (ascending i (length ps - 1) d less in'))
      (before_turned (get_or ps (length ps - 1) d) p (before (get_or ps (length ps - 1) d) (Contains-get_or ps (length ps - 1) d in')))))
]

-- one more, below none of them
top_more : (P : Path → Type 0) (b p : Path) (ps : List Path) → IsTopUpto P b ps → IsBefore b p → NoneBetween P b p → P p → ¬ LastIsAbove ps p → IsTopUpto P p (ps ++ p ∷ [])
top_more P b p ps h less none here alone = record {
  ascending = ascending_more (λ q. q) P b p ps less h.each h.ascending;
  topmost = push_pairs (λ x y. ¬ IsAbove x y) ps p h.topmost (λ i d l above. alone (last_above ps p h.ascending h.topmost (λ q c. upto_before q b p (h.each q c).1 less) i d l above));
  each = each_more (λ q. q) P b p ps less h.each here;
  all = upto_next P (HasAbove (ps ++ p ∷ [])) b p none (λ q is m. let top = h.all q is m in (top.0, Contains-append_left ps (p ∷ []) top.0 top.1, top.2)) (λ _. (p, Contains-push ps p, above_itself p));
}

-- none more: it isn't one, or it is below the last
top_same : (P : Path → Type 0) (b p : Path) (ps : List Path) → IsTopUpto P b ps → IsBefore b p → NoneBetween P b p → (P p → HasAbove ps p) → IsTopUpto P p ps
top_same P b p ps h less none covered = record {
  ascending = h.ascending;
  topmost = h.topmost;
  each = λ q c. ((h.each q c).0, upto_later b p q less (h.each q c).1);
  all = upto_next P (HasAbove ps) b p none h.all covered;
}

-- the path by tests
top_step : (P : Path → Type 0) (b p : Path) (old new : List Path) (named under test : Bool) → IsTopUpto P b old → IsBefore b p → NoneBetween P b p → (IsTrue named ↔ P p) → (IsTrue under ↔ LastIsAbove old p)
    → test ≡ cond named (cond under false true) false → new ≡ cond test (old ++ p ∷ []) old → IsTopUpto P p new
top_step P b p old new true false test h less none is is_under t e = subst (λ (ps : List Path). IsTopUpto P p ps) (sym (e ∙ ap (λ (u : Bool). cond u (old ++ p ∷ []) old) t))
    (top_more P b p old h less none (is.0 refl) (λ last. let f : false ≡ true = is_under.1 last in cc))
top_step P b p old new true true test h less none is is_under t e = subst (λ (ps : List Path). IsTopUpto P p ps) (sym (e ∙ ap (λ (u : Bool). cond u (old ++ p ∷ []) old) t))
    (top_same P b p old h less none (λ _. let last = is_under.0 refl in (last.0, (length old - 1, omega (arith, last.1), sym last.2), last.3)))
top_step P b p old new false under test h less none is is_under t e = subst (λ (ps : List Path). IsTopUpto P p ps) (sym (e ∙ ap (λ (u : Bool). cond u (old ++ p ∷ []) old) t))
    (top_same P b p old h less none (λ here. let f : false ≡ true = is.1 here in cc))

-- no path yet
top_none : (P : Path → Type 0) → ¬ P [] → IsTopUpto P [] []
top_none P n = record {
  ascending = λ i j d less l. absurd (omega arith);
  topmost = λ i j d less l. absurd (omega arith);
  each = λ q c. absurd (omega (arith, c.1));
  all = λ q is m. absurd (upto_root P n q is m);
}

-- ---- a walk over an archive and two replicas

module _ (A F S : Listing Stamp) (rules : List Rule) where
  abbrev s : Snapshot
  s = listed_snapshot A F S rules

  -- what was found up to the path b, with this left
  pub record IsWalked (left : Left) (first second apart held : List Path) : Type 0 where
    pub b : Path
    pub is_left : IsLeft A F S b left
    pub in_first : IsUpto (λ q. at F q ≢ at A q) b first
    pub in_second : IsUpto (λ q. at S q ≢ at A q) b second
    pub in_apart : IsUpto (λ q. at F q ≢ at S q) b apart
    pub in_held : IsTopUpto (IsHeldIn s) b held

  differ_iff : (x y c d : Content Stamp) (test : Bool) → x ≡ c → y ≡ d → (IsTrue test ↔ (c ≢ d)) → IsTrue test ↔ (x ≢ y)
  differ_iff x y c d test e f is = (λ h g. is.0 h (sym e ∙ g ∙ f), λ n. is.1 (λ g. n (e ∙ g ∙ sym f)))

  pub walked_step : (old new : Left) (p : Path) (c_archive c_first c_second : Content Stamp) (first second apart held first' second' apart' held' : List Path) (t_first t_second t_apart named under t_held : Bool)
      → IsWalked old first second apart held → IsWalkStep p c_archive c_first c_second old new
      → (IsTrue t_first ↔ (c_first ≢ c_archive)) → first' ≡ cond t_first (first ++ p ∷ []) first
      → (IsTrue t_second ↔ (c_second ≢ c_archive)) → second' ≡ cond t_second (second ++ p ∷ []) second
      → (IsTrue t_apart ↔ (c_first ≢ c_second)) → apart' ≡ cond t_apart (apart ++ p ∷ []) apart
      → (IsTrue named ↔ Names rules p) → (IsTrue under ↔ LastIsAbove held p) → t_held ≡ cond named (cond under false true) false → held' ≡ cond t_held (held ++ p ∷ []) held
      → IsWalked new first' second' apart' held'
  walked_step old new p ca cf cs first second apart held first' second' apart' held' tf ts ta named under th w step is_f e_f is_s e_s is_a e_a is_n is_u t e_h = record {
    b = p;
    is_left = step_left A F S w.b p ca cf cs old new w.is_left step;
    in_first = upto_step (λ q. at F q ≢ at A q) w.b p first first' tf w.in_first less (λ q after before n. let none = nowhere q after before in n (none.first ∙ sym none.archive)) (differ_iff (at F p) (at A p) cf ca tf here.first here.archive is_f) e_f;
    in_second = upto_step (λ q. at S q ≢ at A q) w.b p second second' ts w.in_second less (λ q after before n. let none = nowhere q after before in n (none.second ∙ sym none.archive)) (differ_iff (at S p) (at A p) cs ca ts here.second here.archive is_s) e_s;
    in_apart = upto_step (λ q. at F q ≢ at S q) w.b p apart apart' ta w.in_apart less (λ q after before n. let none = nowhere q after before in n (none.first ∙ sym none.second)) (differ_iff (at F p) (at S p) cf cs ta here.first here.second is_a) e_a;
    in_held = top_step (IsHeldIn s) w.b p held held' named under th w.in_held less (λ q after before h. nowhere_not_present A F S q (nowhere q after before) h.present)
        (λ yes. record { present = present; named = is_n.0 yes }, λ h. is_n.1 h.named) is_u t e_h;
  }
    where
      less : IsBefore w.b p
      less = step_forward A F S w.b p ca cf cs old new w.is_left step

      here : IsThere A F S p ca cf cs
      here = step_there A F S w.b p ca cf cs old new w.is_left step

      nowhere : (q : Path) → IsBefore w.b q → IsBefore q p → IsThere A F S q Absent Absent Absent
      nowhere = step_between A F S w.b p ca cf cs old new w.is_left step

      present : (at F p ≢ Absent) ⊎ ((at S p ≢ Absent) ⊎ (at A p ≢ Absent))
      present = elim step.some [
        | inl there ↦ inr (inr (λ e. there (sym here.archive ∙ e)))
        | inr more ↦ elim more [
          | inl there ↦ inl (λ e. there (sym here.first ∙ e))
          | inr there ↦ inr (inl (λ e. there (sym here.second ∙ e)))
        ]
      ]

  pub walked_none : IsListing A → IsListing F → IsListing S → IsRules rules → IsWalked (record { archive = A; first = F; second = S }) [] [] [] []
  walked_none lists_a lists_f lists_s fit = record {
    b = [];
    is_left = left_all A F S lists_a lists_f lists_s;
    in_first = upto_none (λ q. at F q ≢ at A q) (λ n. n refl);
    in_second = upto_none (λ q. at S q ≢ at A q) (λ n. n refl);
    in_apart = upto_none (λ q. at F q ≢ at S q) (λ n. n refl);
    in_held = top_none (IsHeldIn s) (λ h. root_unnamed rules fit h.named);
  }

  -- after the last path nothing is left
  pub walked_end : (left : Left) (first second apart held : List Path) → IsWalked left first second apart held → (left.archive ≡ []) × (left.first ≡ []) × (left.second ≡ [])
      → IsFoundOf s (record { first = first; second = second; apart = apart; held = held })
  walked_end left first second apart held w ended = record {
    first = upto_end (λ q. at F q ≢ at A q) w.b first w.in_first (λ q later n. let none = nowhere q later in n (none.first ∙ sym none.archive));
    second = upto_end (λ q. at S q ≢ at A q) w.b second w.in_second (λ q later n. let none = nowhere q later in n (none.second ∙ sym none.archive));
    apart = upto_end (λ q. at F q ≢ at S q) w.b apart w.in_apart (λ q later n. let none = nowhere q later in n (none.first ∙ sym none.second));
    held = λ q c. (w.in_held.each q c).0;
    covered = λ q h. elim (decide_before w.b q) [ yes later ↦ absurd (nowhere_not_present A F S q (nowhere q later) h.present) | no n ↦ w.in_held.all q h n ];
  }
    where
      nowhere : (q : Path) → IsBefore w.b q → IsThere A F S q Absent Absent Absent
      nowhere = left_none A F S w.b left w.is_left ended

  -- the beginning, as code has it
  pub walked_start : (archive first second : Listing Stamp) (walk : Left) (x y z w : List Path) → archive ≡ A → first ≡ F → second ≡ S → IsListing A → IsListing F → IsListing S → IsRules rules
      → walk ≡ record { archive = archive; first = first; second = second } → x ≡ [] → y ≡ [] → z ≡ [] → w ≡ [] → IsWalked walk x y z w
  walked_start archive first second walk x y z w e_a e_f e_s lists_a lists_f lists_s fit e_w e_x e_y e_z e_h =
      subst (λ (l : Left). IsWalked l x y z w) (sym (e_w ∙ (λ i. record { archive = e_a i; first = e_f i; second = e_s i })))
      (subst (λ (l : List Path). IsWalked (record { archive = A; first = F; second = S }) l y z w) (sym e_x)
      (subst (λ (l : List Path). IsWalked (record { archive = A; first = F; second = S }) [] l z w) (sym e_y)
      (subst (λ (l : List Path). IsWalked (record { archive = A; first = F; second = S }) [] [] l w) (sym e_z)
      (subst (λ (l : List Path). IsWalked (record { archive = A; first = F; second = S }) [] [] [] l) (sym e_h) (walked_none lists_a lists_f lists_s fit)))))
