-- Entries in order, and the nearest new directory above each.
use Rattle.std.proofs.Common.{◌≡◌, ◌≢◌, ◌⊎◌, ℕ, zero, suc, ◌+◌, ◌-◌, ◌%◌, ◌<◌, ◌≤◌, List, [], ◌∷◌, ◌++◌, length, Some, slice_get, sym, refl, ap, ◌∙◌, subst, inl, inr, arith}
use Rattle.std.proofs.lemmas.Bool.{cases_eq, cases_lt, cases_order}
use Rattle.std.proofs.lemmas.Option.{same_Some, slice_get_within}
use Rattle.std.proofs.lemmas.List.{length-append}
use Rattle.ts_name.specs.Paths.{IsAbove, IsBefore}
use Rattle.ts_name.proofs.Order.{before_itself, before_trans, before_from_above, above_between}
use Rattle.ts_model.specs.Plans.{IsOutOfOrder}
use Rattle.ts_model.specs.declared.plan.Entry.{Entry}
use Rattle.ts_model.specs.declared.plan.Reason.TheVariants as reason
use Rattle.ts_laws.proofs.Plans.{entries_in_order}
use Rattle.ts_check.specs.Places.{no_action}
use Rattle.ts_check.specs.Nearest.{IsDirAbove, IsDirEntry, IsEntryAbove, IsNearestIndex, IsNearestOf}
use Rattle.ts_name.proofs.Basics.{element_at, got_last}

-- what stands before the last element stays
pub got_front : {A : Type 0} (xs : List A) (x : A) (k : ℕ) → k < length xs → slice_get (xs ++ x ∷ []) k ≡ slice_get xs k
got_front [] x k h = absurd (omega arith)
got_front (y ∷ ys) x zero h = refl
got_front (y ∷ ys) x (suc k) h = got_front ys x k (omega arith)

-- each new directory above entry e is this one or above it
pub record IsCandidate (entries : List Entry) (e at : ℕ) : Type 0 where
  pub place : (at ≡ no_action) ⊎ ((at < e) × IsDirEntry entries at)
  pub covers : (d : ℕ) → IsDirAbove entries d e → (d ≡ at) ⊎ IsDirAbove entries d at

module _ (entries : List Entry) (order : (k : ℕ) → ¬ IsOutOfOrder entries k) where
  -- what comes before is earlier
  pub earlier : (k l : ℕ) (x y : Entry) → slice_get entries k ≡ Some x → slice_get entries l ≡ Some y → IsBefore x.path y.path → k < l
  earlier k l x y is_x is_y before = elim (cases_order k l) [
    | inl same ↦ absurd (
        let one : x ≡ y = same_Some x y (sym is_x ∙ ap (slice_get entries) same ∙ is_y) in
        before_itself y.path (subst (λ (z : Entry). IsBefore z.path y.path) one before))
    | inr (inl h) ↦ h
    | inr (inr h) ↦ absurd (before_itself x.path (before_trans x.path y.path x.path before (entries_in_order entries order l k y x is_y is_x h)))
  ]

  -- a directory above an entry is an earlier entry
  pub dir_earlier : (d e : ℕ) → IsDirAbove entries d e → d < e
  dir_earlier d e h = earlier d e h.dir h.below h.is_dir h.is_below (before_from_above h.dir.path h.below.path h.above h.strictly)

  -- a directory above an entry is above each entry between the two
  above_middle : (d m e : ℕ) (middle : Entry) → slice_get entries m ≡ Some middle → d < m → m < e → IsDirAbove entries d e → IsDirAbove entries d m
  above_middle d m e middle is after before h =
      let first = entries_in_order entries order d m h.dir middle h.is_dir is after in
      record {
        dir = h.dir;
        below = middle;
        is_dir = h.is_dir;
        is_below = is;
        new_dir = h.new_dir;
        above = above_between h.dir.path middle.path h.below.path h.above first (entries_in_order entries order m e middle h.below is h.is_below before);
        strictly = λ same. before_itself middle.path (subst (λ z. IsBefore z middle.path) same first);
      }

  -- the entry just before, where it is a new directory
  pub IsCandidate-dir : (k e : ℕ) (before : Entry) → e ≡ k + 1 → slice_get entries k ≡ Some before → before.reason ≡ reason.Dir → IsCandidate entries e k
  IsCandidate-dir k e before next is new = record {
    place = inr (omega arith, (before, is, new));
    covers = λ d h. let less = dir_earlier d e h in elim (cases_eq d k) [ inl same ↦ inl same | inr differ ↦ inr (above_middle d k e before is (omega arith) (omega arith) h) ];
  }

  -- and else that one's nearest
  pub IsCandidate-nearest : (k e at : ℕ) (before : Entry) → e ≡ k + 1 → slice_get entries k ≡ Some before → before.reason ≢ reason.Dir → IsNearestOf entries k at → IsCandidate entries e at
  IsCandidate-nearest k e at before next is old (inl none) = record {
    place = inl none.0;
    covers = λ d h. absurd (let less = dir_earlier d e h in elim (cases_eq d k) [
      | inl same ↦ old (ap (λ (z : Entry). z.reason) (same_Some before h.dir (sym is ∙ ap (slice_get entries) (sym same) ∙ h.is_dir)) ∙ h.new_dir)
      | inr differ ↦ none.1 d (above_middle d k e before is (omega arith) (omega arith) h)
    ]);
  }
  IsCandidate-nearest k e at before next is old (inr found) = record {
    place = inr ((let less = found.0 in omega arith), (found.1.dir, found.1.is_dir, found.1.new_dir));
    covers = λ d h. let less = dir_earlier d e h in elim (cases_eq d k) [
      | inl same ↦ absurd (old (ap (λ (z : Entry). z.reason) (same_Some before h.dir (sym is ∙ ap (slice_get entries) (sym same) ∙ h.is_dir)) ∙ h.new_dir))
      | inr differ ↦ found.2 d (above_middle d k e before is (omega arith) (omega arith) h)
    ];
  }

  -- a candidate that isn't above gives way to its own nearest
  pub IsCandidate-up : (e at up : ℕ) (dir of : Entry) → IsCandidate entries e at → slice_get entries at ≡ Some dir → slice_get entries e ≡ Some of → ¬ IsAbove dir.path of.path → at < e
      → IsNearestOf entries at up → IsCandidate entries e up
  IsCandidate-up e at up dir of candidate is_dir is_of aside less (inl none) = record {
    place = inl none.0;
    covers = λ d h. absurd (elim (candidate.covers d h) [ inl same ↦ not_at d h same | inr above ↦ none.1 d above ]);
  }
    where
      not_at : (d : ℕ) → IsDirAbove entries d e → d ≡ at → ⊥
      not_at d h same = aside (subst (λ (z : Entry). IsAbove z.path of.path) (same_Some h.dir dir (sym h.is_dir ∙ ap (slice_get entries) same ∙ is_dir))
          (subst (λ (z : Entry). IsAbove h.dir.path z.path) (same_Some h.below of (sym h.is_below ∙ is_of)) h.above))
  IsCandidate-up e at up dir of candidate is_dir is_of aside less (inr found) = record {
    place = inr ((let g = found.0 in omega arith), (found.1.dir, found.1.is_dir, found.1.new_dir));
    covers = λ d h. elim (candidate.covers d h) [ inl same ↦ absurd (not_at d h same) | inr above ↦ found.2 d above ];
  }
    where
      not_at : (d : ℕ) → IsDirAbove entries d e → d ≡ at → ⊥
      not_at d h same = aside (subst (λ (z : Entry). IsAbove z.path of.path) (same_Some h.dir dir (sym h.is_dir ∙ ap (slice_get entries) same ∙ is_dir))
          (subst (λ (z : Entry). IsAbove h.dir.path z.path) (same_Some h.below of (sym h.is_below ∙ is_of)) h.above))

  -- where no candidate is left there is none above
  pub IsNearestOf-none : (e at : ℕ) → length entries ≤ 1048576 → IsCandidate entries e at → at ≡ no_action → IsNearestOf entries e at
  IsNearestOf-none e at few candidate none = inl (
    none,
    λ d h. elim (candidate.covers d h) [
      | inl same ↦ (let within = slice_get_within entries d h.dir h.is_dir in omega arith)
      | inr above ↦ (let within = slice_get_within entries at above.below above.is_below in omega arith)
    ],
  )

  -- a candidate that is above is the nearest
  pub IsNearestOf-found : (e at : ℕ) (of dir : Entry) → length entries ≤ 1048576 → IsCandidate entries e at → slice_get entries e ≡ Some of → slice_get entries at ≡ Some dir → IsAbove dir.path of.path → IsNearestOf entries e at
  IsNearestOf-found e at of dir few candidate is_of is_dir above = elim candidate.place [
    | inl none ↦ absurd (let within = slice_get_within entries at dir is_dir in omega arith)
    | inr here ↦ inr (
      here.0,
      record {
        dir = here.1.0;
        below = of;
        is_dir = here.1.1;
        is_below = is_of;
        new_dir = here.1.2;
        above = subst (λ (z : Entry). IsAbove z.path of.path) (same_Some dir here.1.0 (sym is_dir ∙ here.1.1)) above;
        strictly = λ same. before_itself of.path (subst (λ z. IsBefore z of.path) same (entries_in_order entries order at e here.1.0 of here.1.1 is_of here.0));
      },
      candidate.covers,
    )
  ]

  -- the first entry has no directory above
  pub IsNearestOf-first : IsNearestOf entries 0 no_action
  IsNearestOf-first = inl (refl, λ d h. let less = dir_earlier d 0 h in omega arith)

  -- what the search begins with: the entry just before, or its nearest
  pub begin_here : (e : ℕ) → 0 < e → IsDirEntry entries (e - 1) → IsCandidate entries e (e - 1)
  begin_here e some dir = IsCandidate-dir (e - 1) e dir.0 (omega arith) dir.1 dir.2

  pub begin_up : (e at : ℕ) → 0 < e → e < length entries → ¬ IsDirEntry entries (e - 1) → IsNearestOf entries (e - 1) at → IsCandidate entries e at
  begin_up e at some within old nearest =
      let before = element_at entries (e - 1) (omega arith) in
      IsCandidate-nearest (e - 1) e at before.0 (omega arith) before.1 (λ new. old (before.0, before.1, new)) nearest

  -- one step up
  pub step_up : (e at up : ℕ) → length entries ≤ 1048576 → e < length entries → at ≢ no_action → IsCandidate entries e at → ¬ IsEntryAbove entries at e → IsNearestOf entries at up → IsCandidate entries e up
  step_up e at up few within there candidate aside nearest = elim candidate.place [
    | inl none ↦ absurd (there none)
    | inr here ↦ (
        let of = element_at entries e within in
        IsCandidate-up e at up here.1.0 of.0 candidate here.1.1 of.1 (λ above. aside (here.1.0, of.0, here.1.1, of.1, above)) here.0 nearest)
  ]

  -- a candidate is an earlier entry
  pub candidate_within : (e at : ℕ) → at ≢ no_action → IsCandidate entries e at → at < e
  candidate_within e at there candidate = elim candidate.place [ inl none ↦ absurd (there none) | inr here ↦ here.0 ]

  -- going up comes to an end
  pub going_up : (at up : ℕ) → at < 1048576 → IsNearestOf entries at up → (up + 1) % 4294967296 < (at + 1) % 4294967296
  going_up at up small (inl none) = let e : up ≡ 4294967295 = none.0 in omega arith
  going_up at up small (inr found) = let g = found.0 in omega arith

-- one entry more in the index
pub IsNearestIndex-push : (entries : List Entry) (nearest : List ℕ) (e found : ℕ) → length nearest ≡ e → IsNearestIndex entries nearest → IsNearestOf entries e found → IsNearestIndex entries (nearest ++ found ∷ [])
IsNearestIndex-push entries nearest e found size known new k at is = elim (cases_lt k (length nearest)) [
  | inl less ↦ known k at (sym (got_front nearest found k less) ∙ is)
  | inr more ↦ (
      let within = slice_get_within (nearest ++ found ∷ []) k at is in
      let here : k ≡ length nearest = omega (arith, length-append nearest (found ∷ [])) in
      let same : at ≡ found = same_Some at found (sym is ∙ ap (slice_get (nearest ++ found ∷ [])) here ∙ got_last nearest found) in
      subst (λ z. IsNearestOf entries k z) (sym same) (subst (λ z. IsNearestOf entries z found) (sym (here ∙ size)) new))
]
