-- Where the entries of a valid plan stand: below directories, in path order, and apart.
use Rattle.std.proofs.Common.{◌≡◌, ◌≢◌, ℕ, zero, suc, ◌+◌, ◌<◌, List, [], ◌∷◌, ◌++◌, length, Some, slice_get, sym, refl, ap, ◌∙◌, subst, inl, inr, append-nil, arith}
use Rattle.std.specs.List.{AllByRecursion}
use Rattle.std.proofs.lemmas.Bool.{cases_order}
use Rattle.std.proofs.lemmas.Option.{none-some}
use Rattle.ts_name.specs.Paths.{Name, Path, IsBefore}
use Rattle.ts_model.specs.Trees.{Tree}
use Rattle.ts_model.specs.Sync.{Snapshot, IsSnapshot, AreReplicas, HasReason, AreBothDirs, IsBelowDirs}
use Rattle.ts_model.specs.Plans.{EntryIs, source, Valid}
use Rattle.ts_model.specs.Runs.{marked}
use Rattle.ts_model.specs.declared.row.Content.TheVariants.{Dir}
use Rattle.ts_model.specs.declared.plan.Side.{Side}
use Rattle.ts_model.specs.declared.plan.Side.TheVariants as side
use Rattle.ts_model.specs.declared.plan.Reason.TheVariants as reason
use Rattle.ts_model.specs.declared.plan.Entry.{Entry}
use Rattle.ts_model.specs.declared.plan.Plan.{Plan}
use Rattle.ts_laws.specs.Laws.{IsEntryOf}
use Rattle.ts_laws.specs.Carried.{copied, marked_all, IsInPlace, AreInPlace}
use Rattle.ts_laws.proofs.Settings.{Setting, Begun, begun_at}
use Rattle.ts_laws.proofs.Basics.{Start-from, stable}
use Rattle.ts_name.proofs.Prefixes.{snoc_not_empty, same_parent}
use Rattle.ts_name.proofs.Order.{before_itself, before_trans, before_below, below_before}
use Rattle.ts_laws.proofs.Reasons.{IsWhole-from_snapshot, edge_not_above_dirs, Below-from, Dir-new, decide_reason, still_not_Dir, new_dir_reason}
use Rattle.ts_laws.proofs.Steps.{same_entry, reason_holds}
use Rattle.ts_laws.proofs.Pairs.{dirs_trees}
use Rattle.ts_laws.proofs.Plans.{in_order}
use Rattle.ts_laws.proofs.Marks.{entry_edge, over_is_Dir}
use Rattle.ts_laws.proofs.Entries.{reason_has_entry}
use Rattle.ts_laws.proofs.Carried.{AreFrom, first_from, rest_from, copied_off, marked_off, marked_at}
use Rattle.ts_name.proofs.Basics.{got_front}
use Rattle.ts_model.proofs.Deciding.{same_stamp_at}

-- ---- lists in two parts

-- what is in the whole before the second part is in the first
front_get : {A : Type 0} (xs ys : List A) (j : ℕ) (x : A) → j < length xs → slice_get (xs ++ ys) j ≡ Some x → slice_get xs j ≡ Some x
front_get [] ys j x less is = absurd (omega (arith, less))
front_get (z ∷ zs) ys zero x less is = is
front_get (z ∷ zs) ys (suc j) x less is = front_get zs ys j x (omega (arith, less)) is

-- what is in the second part is in the whole after the first
get_back : {A : Type 0} (xs ys : List A) (j : ℕ) (x : A) → slice_get ys j ≡ Some x → slice_get (xs ++ ys) (length xs + j) ≡ Some x
get_back [] ys j x is = let same : j ≡ 0 + j = omega arith in subst (λ z. slice_get ys z ≡ Some x) same is
get_back (z ∷ zs) ys j x is =
    let same : suc (length zs + j) ≡ length (z ∷ zs) + j = omega arith in
    subst (λ k. slice_get (z ∷ (zs ++ ys)) k ≡ Some x) same (get_back zs ys j x is)

-- ---- where an entry stands

module _ (given : Setting) where
  open given use {s, plan, valid, lawful}

  -- no entry but a new directory is above a directory of both
  pub above_is_Dir : (q : Path) → AreBothDirs s.first s.second q → (e : ℕ) (x : Entry) → EntryIs plan e x → (more : Path) → q ≡ x.path ++ more → x.reason ≡ reason.Dir
  above_is_Dir q dirs e x is more at =
      stable (decide_reason x.reason reason.Dir) (λ ne. edge_not_above_dirs s (IsWhole-from_snapshot s lawful) x.path q (entry_edge given e x is ne) dirs more at)

  -- and it is strictly above one that the archive has
  pub over_old_dir : (q : Path) → AreBothDirs s.first s.second q → s.archive q ≡ Dir → (e : ℕ) (x : Entry) → EntryIs plan e x → (more : Path) → q ≡ x.path ++ more
      → (x.reason ≡ reason.Dir) × (more ≢ [])
  over_old_dir q dirs old e x is more over =
      let why = above_is_Dir q dirs e x is more over in (
        why,
        λ empty. Dir-new s x.path (subst (λ z. ¬ (¬ HasReason s x.path z)) why (reason_holds s plan valid e x is))
            (ap s.archive (sym (over ∙ ap (λ z. x.path ++ z) empty ∙ append-nil x.path)) ∙ old),
      )

module _ (given : Setting) (k : ℕ) (x : Entry) (is : EntryIs given.plan k x) where
  open given use {s, plan, valid, lawful}

  -- the entry is below directories
  is_below : IsBelowDirs s.first s.second x.path
  is_below = Below-from s x.path x.reason (reason_holds s plan valid k x is)

  -- so it isn't the root
  pub not_root : x.path ≢ []
  not_root root = snoc_not_empty is_below.0 is_below.1 (sym is_below.2 ∙ root)

  -- and both have a directory at its parent
  pub parent_dirs : (parent : Path) (name : Name) → x.path ≡ parent ++ name ∷ [] → AreBothDirs s.first s.second parent
  parent_dirs parent name at = subst (λ z. AreBothDirs s.first s.second z) (same_parent is_below.0 parent is_below.1 name (sym is_below.2 ∙ at)) is_below.3

  -- a new directory that the entry is in comes before it
  pub dir_before : (parent : Path) (name : Name) → x.path ≡ parent ++ name ∷ [] → (e : ℕ) (y : Entry) → EntryIs plan e y → y.path ≡ parent → e < k
  dir_before parent name at e y is_y same = elim (cases_order e k) [
    | inl e_is ↦ absurd (before_itself x.path (subst (λ z. IsBefore z.path x.path) (same_entry plan k y x (subst (λ z. EntryIs plan z y) e_is is_y) is) over))
    | inr (inl less) ↦ less
    | inr (inr more) ↦ absurd (before_itself y.path (before_trans y.path x.path y.path over (in_order s plan valid k e x y is is_y more)))
  ]
    where
      over : IsBefore y.path x.path
      over = subst (λ z. IsBefore y.path z) (ap (λ z. z ++ name ∷ []) same ∙ sym at) (before_below y.path name [])

  -- each later entry's path comes after it
  pub ascends_to : (l : ℕ) (xs : List Entry) → k < l → AreFrom plan l xs → AllByRecursion (λ later. IsBefore x.path later.path) xs
  ascends_to l [] less from = tt
  ascends_to l (y ∷ ys) less from = (
    in_order s plan valid k l x y is (first_from plan l y ys from) less,
    ascends_to (suc l) ys (omega (arith, less)) (rest_from plan l y ys from),
  )

  -- and after what is below it, unless it is a new directory
  pub apart_from : x.reason ≢ reason.Dir → (rest : Path) → (l : ℕ) (xs : List Entry) → k < l → AreFrom plan l xs → AllByRecursion (λ later. IsBefore (x.path ++ rest) later.path) xs
  apart_from ne rest l [] less from = tt
  apart_from ne rest l (y ∷ ys) less from = (
    below_before x.path rest y.path first (λ above. not_above above.0 above.1),
    apart_from ne rest (suc l) ys (omega (arith, less)) (rest_from plan l y ys from),
  )
    where
      first : IsBefore x.path y.path
      first = in_order s plan valid k l x y is (first_from plan l y ys from) less

      not_above : (more : Path) → y.path ≡ x.path ++ more → ⊥
      not_above [] at = before_itself y.path (subst (λ z. IsBefore z y.path) (sym (at ∙ append-nil x.path)) first)
      not_above (name ∷ more) at = ne (over_is_Dir given k l x y is (first_from plan l y ys from) name more at)

-- ---- of entries in two parts

module _ (given : Begun) (before : List Entry) (entry : Entry) (after : List Entry) (split : given.setting.plan.entries ≡ before ++ entry ∷ after) where
  open given use {setting.{s, plan, valid, lawful, a, b}, begin}

  -- the entries before are the plan's first
  front_from : AreFrom plan 0 before
  front_from j x is =
      let same : j ≡ 0 + j = omega arith in
      subst (λ z. EntryIs plan z x) same (subst (λ z. slice_get z j ≡ Some x) (sym split) (got_front before (entry ∷ after) j x is))

  -- the entry and those after it are the others
  back_from : AreFrom plan (length before) (entry ∷ after)
  back_from j x is = subst (λ z. slice_get z (length before + j) ≡ Some x) (sym split) (get_back before (entry ∷ after) j x is)

  -- the entry is at their place
  is_entry : EntryIs plan (length before) entry
  is_entry = first_from plan (length before) entry after back_from

  -- both have a directory at its parent
  at_parent : (parent : Path) (name : Name) → entry.path ≡ parent ++ name ∷ [] → AreBothDirs s.first s.second parent
  at_parent = parent_dirs given.setting (length before) entry is_entry

  -- a copy leaves each directory of both
  dirs_copied : (from : Side) (origin t : Tree) → (q : Path) → AreBothDirs s.first s.second q → copied from origin t before q ≡ t q
  dirs_copied from origin t q dirs = copied_off from origin t before q (λ j x is why more at.
      none-some from (ap source (sym (above_is_Dir given.setting q dirs (0 + j) x (front_from j x is) more at)) ∙ why))

  -- the parent is a directory in the archive, from the start or by its mark
  archive_dirs : (parent : Path) (name : Name) → entry.path ≡ parent ++ name ∷ [] → marked_all s s.archive before parent ≡ Dir
  archive_dirs parent name at = elim (same_stamp_at (s.archive parent) Dir) [
    | yes old ↦ marked_off given.setting s.archive 0 before front_from parent (λ e x is markable more over. over_old_dir given.setting parent (at_parent parent name at) old e x is more over) refl ∙ old
    | no new ↦ by_mark (reason_has_entry s plan valid parent reason.Dir (new_dir_reason s lawful parent (at_parent parent name at) new))
  ]
    where
      by_mark : IsEntryOf plan parent reason.Dir → marked_all s s.archive before parent ≡ Dir
      by_mark (e, x, is, x_at, new) =
          let here = front_get before (entry ∷ after) e x (dir_before given.setting (length before) entry is_entry parent name at e x is x_at) (subst (λ z. slice_get z e ≡ Some x) split is) in
          ap (marked_all s s.archive before) (sym x_at ∙ sym (append-nil x.path))
          ∙ marked_at given.setting s.archive 0 before front_from e x [] here (λ still. still_not_Dir x.reason still new) (λ _. refl)
          ∙ ap (λ z. marked s z x.path []) new

  -- so the entry is in its place
  in_place : IsInPlace s a b before entry after
  in_place = record {
    not_root = not_root given.setting (length before) entry is_entry;
    parent = λ parent name at. dirs_trees s a b begin parent (at_parent parent name at);
    in_first = λ parent name at. dirs_copied side.Second b a parent (at_parent parent name at) ∙ (dirs_trees s a b begin parent (at_parent parent name at)).0;
    in_second = λ parent name at. dirs_copied side.First a b parent (at_parent parent name at) ∙ (dirs_trees s a b begin parent (at_parent parent name at)).1;
    in_archive = archive_dirs;
    ascends = ascends_to given.setting (length before) entry is_entry (suc (length before)) after (omega arith) (rest_from plan (length before) entry after back_from);
    apart = λ ne rest. apart_from given.setting (length before) entry is_entry ne rest (suc (length before)) after (omega arith) (rest_from plan (length before) entry after back_from);
  }

-- ---- the law

-- each entry of a valid plan is in its place
pub entries_in_place : (s : Snapshot) (plan : Plan) (a b : Tree) → Valid s plan → IsSnapshot s → AreReplicas s a b → AreInPlace s plan a b
entries_in_place s plan a b valid lawful are before entry after split = in_place (begun_at s plan valid a b (Start-from s a b lawful are)) before entry after split
