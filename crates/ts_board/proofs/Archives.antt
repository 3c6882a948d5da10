-- What the marks of a closed part leave of the archive, put in the entries' order: the part's archive. For a closed board that is the one after the run.
use Rattle.std.proofs.Common.{◌≡◌, ◌≢◌, ◌⊎◌, ℕ, suc, ◌+◌, ◌<◌, Bool, true, false, List, [], ◌∷◌, ◌++◌, length, Option, Some, None, slice_get, sym, refl, ap, ◌∙◌, subst, inl, inr, append-nil, arith}
use Rattle.std.specs.Prelude.{slice_index, slice_index_or, Result, Ok, Err, IfOk}
use Rattle.std.specs.List.{AllByRecursion, list_any}
use Rattle.std.specs.Int.{bit_at}
use Rattle.std.proofs.lemmas.Bool.{true≢false, cases_eq}
use Rattle.std.proofs.lemmas.Option.{slice_get_within}
use Rattle.ts_name.specs.Paths.{Name, Path, IsBefore}
use Rattle.ts_model.specs.Trees.{Listing, Tree, Print, IsListing, at}
use Rattle.ts_model.specs.Sync.{Snapshot, AreBothDirs, HasReason, IsSkipped, treatment}
use Rattle.ts_model.specs.Plans.{ActionIs, EntryIs, KindIs, Valid}
use Rattle.ts_model.specs.Resume.{IsClosedPart, archive_of_part}
use Rattle.ts_model.specs.Runs.{Run, Legal, Has, acts, finishes, graft, marked, after, start, word_after, marked_by}
use Rattle.ts_model.specs.declared.row.Content.TheVariants.{Absent, Dir}
use Rattle.ts_model.specs.declared.row.Stamp.{Stamp}
use Rattle.ts_model.specs.declared.plan.Reason.{Reason}
use Rattle.ts_model.specs.declared.plan.Reason.TheVariants as reason
use Rattle.ts_model.specs.declared.plan.Side.TheVariants as side
use Rattle.ts_model.specs.declared.plan.Treatment.{Treatment}
use Rattle.ts_model.specs.declared.plan.Treatment.TheVariants.{Copied, Agreed, NewDirectory, Skipped}
use Rattle.ts_model.proofs.Reasons.{skipped_from_left}
use Rattle.ts_model.specs.declared.plan.Entry.{Entry}
use Rattle.ts_model.specs.declared.plan.Action.{Action}
use Rattle.ts_model.specs.declared.plan.Kind.{Kind}
use Rattle.ts_model.specs.declared.plan.Kind.TheVariants.{Piece, Commit, Mark}
use Rattle.ts_model.specs.declared.plan.Plan.{Plan}
use Rattle.ts_table.specs.Tables.{IsPlace}
use Rattle.ts_laws.proofs.Settings.{Setting}
use Rattle.ts_name.proofs.Order.{before_itself, before_trans, before_below}
use Rattle.ts_laws.proofs.Grafts.{graft_at}
use Rattle.ts_laws.proofs.Reasons.{Dir-dirs, IsEdge, IsWhole-from_snapshot, by_places, still_not_Dir, new_dir_reason}
use Rattle.ts_laws.proofs.Steps.{same_entry, mark_is_marked, reason_holds}
use Rattle.ts_laws.proofs.Plans.{in_order, mark_exists, mark_waits_for_dir, one_mark}
use Rattle.ts_laws.proofs.Entries.{reason_has_entry, parent_is_nearest}
use Rattle.ts_laws.proofs.Runs.{IsRun, IsRun-from_legal, waited_for}
use Rattle.ts_laws.specs.Laws.{IsEntryOf}
use Rattle.ts_laws.proofs.Marks.{mark_kept, mark_or_none, mark_over_mark, unmarked_under, IsMarkedAt, archive_from_marks}
use Rattle.ts_laws.proofs.Parts.{part_marked, part_untouched}
use Rattle.ts_laws.proofs.Places.{over_old_dir, not_root, parent_dirs, dir_before, ascends_to, apart_from}
use Rattle.ts_laws.proofs.Carried.{AreFrom, first_from, rest_from}
use Rattle.ts_board.specs.Edits.{marks, left_by, with_put, ComesFirst, MayFollow, marks_by}
use Rattle.ts_board.proofs.Edits.{first_marks}
use Rattle.ts_check.specs.Checkup.{Checkup, snapshot_of}
use Rattle.ts_board.specs.declared.law.Terms.{Terms}
use Rattle.ts_board.specs.Checks.{IsFromCheck}
use Rattle.ts_board.specs.Kept.{HasLeft}
use Rattle.ts_board.specs.Archives.{AreMarked, AreOfPart, flagged, is_flagged, picked}
use Rattle.ts_board.proofs.Checks.{legal_for}
use Rattle.ts_board.proofs.Words.{done_word, few_open, true_from_bit}
use Rattle.ts_board.specs.Runs.{bit}
use Rattle.ts_laws.proofs.Listings.{listed_lawful}
use Rattle.ts_model.proofs.Deciding.{same_stamp_at}

-- the part has the mark of the entry at this place
abbrev pub IsMarkedIn : Plan → (ℕ → Bool) → ℕ → Type 0
IsMarkedIn plan part e = (i : ℕ) × KindIs plan i (Mark e) × (part i ≡ true)

-- what holds of all entries holds of those that are picked
picked_all : (P : Entry → Type 0) (xs : List Entry) (flags : List Bool) → AllByRecursion P xs → AllByRecursion P (picked xs flags)
picked_all P [] flags h = tt
picked_all P (x ∷ xs) [] h = tt
picked_all P (x ∷ xs) (true ∷ flags) h = (h.0, picked_all P xs flags h.1)
picked_all P (x ∷ xs) (false ∷ flags) h = picked_all P xs flags h.1

-- what an entry that isn't skipped puts is its mark
pub put_mark : (s : Snapshot) (t : Print) (p : Path) (r : Reason) → ¬ IsSkipped r → with_put t p (marks s.first s.second r p) ≡ graft t p (marked s r p)
put_mark s t p r h = go (treatment r) refl
  where
    go : (how : Treatment) → treatment r ≡ how → with_put t p (marks_by s.first s.second how p) ≡ graft t p (marked_by s how p)
    go (Copied side.First) e = refl
    go (Copied side.Second) e = refl
    go Agreed e = refl
    go NewDirectory e = refl
    go Skipped e = absurd (h (skipped_from_left r e))

-- no mark at an edge is of a new directory
pub root_alone : (given : Setting) (p rest : Path) → IsEdge given.s p ⊎ (AreBothDirs given.s.first given.s.second p × (rest ≡ [])) → (part : ℕ → Bool) (found : IsMarkedAt given.plan part p)
    → found.entry.reason ≡ reason.Dir → rest ≡ []
root_alone given p rest (inr dirs) part found new = dirs.1
root_alone given p rest (inl edge) part found new =
    let holds = reason_holds given.s given.plan given.valid found.place found.entry found.is in
    absurd (edge.no_dirs (Dir-dirs given.s p (subst (λ z. ¬ (¬ HasReason given.s p z)) new (subst (λ z. ¬ (¬ HasReason given.s z found.entry.reason)) found.at holds))))

-- ---- marks in the entries' order

module _ (given : Setting) (r : Run) (part : ℕ → Bool) (closed : IsClosedPart given.plan r part) where
  open given use {s, plan, valid, lawful}

  abbrev Chosen : ℕ → Type 0
  Chosen e = IsMarkedIn plan part e

  -- its entry isn't skipped
  markable : (e : ℕ) (x : Entry) → EntryIs plan e x → Chosen e → ¬ IsSkipped x.reason
  markable e x is chosen =
      let found = mark_is_marked s plan valid chosen.0 e chosen.1 in
      subst (λ z. ¬ IsSkipped z.reason) (same_entry plan e found.0 x found.1 is) found.2

  -- t is the archive with the part's marks of the entries before place k
  pub record IsMarkedTo (k : ℕ) (t : Print) : Type 0 where
    pub kept : (q : Path) → ((e : ℕ) (x : Entry) → e < k → EntryIs plan e x → Chosen e → (more : Path) → q ≡ x.path ++ more → (x.reason ≡ reason.Dir) × (more ≢ [])) → t q ≡ s.archive q
    pub written : (e : ℕ) (x : Entry) (rest : Path) → e < k → EntryIs plan e x → Chosen e → (x.reason ≡ reason.Dir → rest ≡ []) → t (x.path ++ rest) ≡ marked s x.reason x.path rest

  -- at the start
  pub marked_start : IsMarkedTo 0 s.archive
  marked_start = record { kept = λ q off. refl; written = λ e x rest less is chosen only. absurd (omega arith) }

  -- after an entry whose mark isn't in the part
  unmarked_next : (k : ℕ) (t : Print) → ¬ Chosen k → IsMarkedTo k t → IsMarkedTo (suc k) t
  unmarked_next k t none before = record {
    kept = λ q off. before.kept q (λ e x less is chosen more at. off e x (omega arith) is chosen more at);
    written = λ e x rest less is chosen only. elim (cases_eq e k) [
      | inl same ↦ absurd (none (subst (λ z. Chosen z) same chosen))
      | inr differ ↦ (let earlier : e < k = omega arith in before.written e x rest earlier is chosen only)
    ];
  }

  -- after an entry whose mark is
  marked_next : (k : ℕ) (t : Print) (x : Entry) → EntryIs plan k x → Chosen k → IsMarkedTo k t → IsMarkedTo (suc k) (graft t x.path (marked s x.reason x.path))
  marked_next k t x is chosen before = record {
    kept = λ q off. mark_kept given q t k x is (λ more at. off k x (omega arith) is chosen more at)
        (before.kept q (λ e y less is_y chosen_y more at. off e y (omega arith) is_y chosen_y more at));
    written = λ e y rest less is_y chosen_y only. elim (cases_eq e k) [
      | inl same ↦ (let one : y ≡ x = same_entry plan k y x (subst (λ z. EntryIs plan z y) same is_y) is in
          subst (λ z. graft t x.path (marked s x.reason x.path) (z.path ++ rest) ≡ marked s z.reason z.path rest) (sym one) (graft_at t x.path (marked s x.reason x.path) rest))
      | inr differ ↦ (let earlier : e < k = omega arith in
          mark_over_mark given t e k y x rest is_y is only
          (λ new over. before_itself y.path (before_trans y.path x.path y.path (in_order s plan valid e k y x is_y is earlier)
          (subst (λ z. IsBefore x.path z) (sym over.is) (before_below x.path over.name over.rest))))
          (before.written e y rest earlier is_y chosen_y only))
    ];
  }

  -- ---- where a marked entry stands

  module _ (k : ℕ) (x : Entry) (is : EntryIs plan k x) (chosen : Chosen k) where
    -- the mark of the new directory that it is in is in the part too, so there is a directory by then
    stands : (t : Print) → IsMarkedTo k t → IsPlace t x.path
    stands t before = record { not_root = not_root given k x is; parent = at_parent }
      where
        at_parent : (parent : Path) (name : Name) → x.path ≡ parent ++ name ∷ [] → t parent ≡ Dir
        at_parent parent name at = elim (same_stamp_at (s.archive parent) Dir) [
          | yes old ↦ before.kept parent (λ e y less is_y chosen_y more over. over_old_dir given parent dirs old e y is_y more over) ∙ old
          | no new ↦ by_mark (reason_has_entry s plan valid parent reason.Dir (new_dir_reason s lawful parent dirs new))
        ]
          where
            dirs : AreBothDirs s.first s.second parent
            dirs = parent_dirs given k x is parent name at

            by_mark : IsEntryOf plan parent reason.Dir → t parent ≡ Dir
            by_mark found =
                let dir = found.1 in
                let near = parent_is_nearest plan k found.0 x dir name is found.2 found.4 (at ∙ ap (λ z. z ++ name ∷ []) (sym found.3)) in
                let mark = mark_exists s plan valid found.0 dir found.2 (λ skip. still_not_Dir dir.reason skip found.4) in
                let waits = mark_waits_for_dir s plan valid chosen.0 k found.0 mark.0 chosen.1 near mark.1 in
                let taken = closed.closed chosen.0 mark.0 found.0 chosen.2 waits mark.1 in
                ap t (sym found.3 ∙ sym (append-nil dir.path))
                ∙ before.written found.0 dir [] (dir_before given k x is parent name at found.0 dir found.2 found.3) found.2 (mark.0, mark.1, taken) (λ _. refl)
                ∙ ap (λ z. marked s z dir.path []) found.4

    comes_first : (xs : List Entry) (flags : List Bool) → AreFrom plan (suc k) xs → ComesFirst x.path (marks s.first s.second x.reason x.path) (picked xs flags)
    comes_first xs flags from = first_marks s.first s.second x (picked xs flags)
        (picked_all (λ later. IsBefore x.path later.path) xs flags (ascends_to given k x is (suc k) xs (omega arith) from))
        (λ ne rest. picked_all (λ later. IsBefore (x.path ++ rest) later.path) xs flags (apart_from given k x is ne rest (suc k) xs (omega arith) from))

  -- ---- all marked entries

  -- the flags of the entries from place k on say whose marks the part has
  abbrev pub FlagsAre : ℕ → List Entry → List Bool → Type 0
  FlagsAre k [] flags = Unit {0}
  FlagsAre k (x ∷ xs) [] = ⊥
  FlagsAre k (x ∷ xs) (flag ∷ flags) = ((flag ≡ true → Chosen k) × (Chosen k → flag ≡ true)) × FlagsAre (suc k) xs flags

  -- the entry at place k is marked next
  marked_put : (k : ℕ) (t : Print) (x : Entry) → EntryIs plan k x → Chosen k → IsMarkedTo k t → IsMarkedTo (suc k) (with_put t x.path (marks s.first s.second x.reason x.path))
  marked_put k t x is chosen before = subst (λ u. IsMarkedTo (suc k) u) (sym (put_mark s t x.path x.reason (markable k x is chosen))) (marked_next k t x is chosen before)

  -- the picked entries' marks may be put one after another
  pub follows : (t : Print) (k : ℕ) (xs : List Entry) (flags : List Bool) → AreFrom plan k xs → FlagsAre k xs flags → IsMarkedTo k t → MayFollow (marks s.first s.second) t (picked xs flags)
  follows t k [] flags from are before = tt
  follows t k (x ∷ xs) [] from are before = absurd are
  follows t k (x ∷ xs) (true ∷ flags) from are before =
      let is = first_from plan k x xs from in
      let chosen = are.0.0 refl in (
        stands k x is chosen t before,
        comes_first k x is chosen xs flags (rest_from plan k x xs from),
        follows (with_put t x.path (marks s.first s.second x.reason x.path)) (suc k) xs flags (rest_from plan k x xs from) are.1 (marked_put k t x is chosen before),
      )
  follows t k (x ∷ xs) (false ∷ flags) from are before =
      follows t (suc k) xs flags (rest_from plan k x xs from) are.1 (unmarked_next k t (λ c. true≢false (sym (are.0.1 c))) before)

  -- and leave all marks
  pub ends_marked : (t : Print) (k : ℕ) (xs : List Entry) (flags : List Bool) → AreFrom plan k xs → FlagsAre k xs flags → IsMarkedTo k t
      → IsMarkedTo (k + length xs) (left_by (marks s.first s.second) t (picked xs flags))
  ends_marked t k [] flags from are before = let same : k ≡ k + 0 = omega arith in subst (λ n. IsMarkedTo n t) same before
  ends_marked t k (x ∷ xs) [] from are before = absurd are
  ends_marked t k (x ∷ xs) (true ∷ flags) from are before =
      let same : suc k + length xs ≡ k + length (x ∷ xs) = omega arith in
      let u = with_put t x.path (marks s.first s.second x.reason x.path) in
      subst (λ n. IsMarkedTo n (left_by (marks s.first s.second) u (picked xs flags))) same
      (ends_marked u (suc k) xs flags (rest_from plan k x xs from) are.1 (marked_put k t x (first_from plan k x xs from) (are.0.0 refl) before))
  ends_marked t k (x ∷ xs) (false ∷ flags) from are before =
      let same : suc k + length xs ≡ k + length (x ∷ xs) = omega arith in
      subst (λ n. IsMarkedTo n (left_by (marks s.first s.second) t (picked xs flags))) same
      (ends_marked t (suc k) xs flags (rest_from plan k x xs from) are.1 (unmarked_next k t (λ c. true≢false (sym (are.0.1 c))) before))

  -- ---- that is the archive of the part

  pub archive_is : (t : Print) → IsMarkedTo (length plan.entries) t → t ≡ archive_of_part s plan part (length plan.actions)
  archive_is t before = by_places s (IsWhole-from_snapshot s lawful) t (archive_of_part s plan part (length plan.actions)) (λ p rest kind_of_p. elim (mark_or_none given part p) [
    | inl others ↦ (let none = unmarked_under given part p rest kind_of_p others in
        before.kept (p ++ rest) (λ e x less is chosen more at. none.each chosen.0 e x chosen.2 chosen.1 is more at) ∙ sym (part_untouched given r part closed (p ++ rest) none))
    | inr found ↦ (let only = root_alone given p rest kind_of_p part found in
        subst (λ z. t (z ++ rest) ≡ marked s found.entry.reason z rest) found.at
        (before.written found.place found.entry rest (slice_get_within plan.entries found.place found.entry found.is) found.is (found.mark, found.kind, found.chosen) only)
        ∙ sym (part_marked given r part closed p rest found only))
  ])

-- ---- what flags leave

flags_from : (given : Setting) (r : Run) (part : ℕ → Bool) (closed : IsClosedPart given.plan r part) (k : ℕ) (xs : List Entry) (flags : List Bool) → length flags ≡ length xs
    → ((j : ℕ) → j < length xs → (slice_index_or flags j false ≡ true → IsMarkedIn given.plan part (k + j)) × (IsMarkedIn given.plan part (k + j) → slice_index_or flags j false ≡ true))
    → FlagsAre given r part closed k xs flags
flags_from given r part closed k [] flags long each = tt
flags_from given r part closed k (x ∷ xs) [] long each = absurd (omega (arith, long))
flags_from given r part closed k (x ∷ xs) (flag ∷ flags) long each = (
  (let here = each 0 (omega arith) in let same : k + 0 ≡ k = omega arith in ((λ h. subst (λ z. IsMarkedIn given.plan part z) same (here.0 h)), λ h. here.1 (subst (λ z. IsMarkedIn given.plan part z) (sym same) h))),
  flags_from given r part closed (suc k) xs flags (omega (arith, long)) (λ j less.
      let there = each (suc j) (omega (arith, less)) in
      let same : k + suc j ≡ suc k + j = omega arith in
      ((λ h. subst (λ z. IsMarkedIn given.plan part z) same (there.0 h)), λ h. there.1 (subst (λ z. IsMarkedIn given.plan part z) (sym same) h))),
)

-- the mark of an entry is in the part just where the entry is flagged
pub flag_of : (plan : Plan) (flags : List Bool) (i e : ℕ) → KindIs plan i (Mark e) → flagged plan flags i ≡ slice_index_or flags e false
flag_of plan flags i e kind = ap (λ o. elim o [ None ↦ false | Some action ↦ is_flagged flags action.kind ]) kind.1 ∙ ap (λ z. is_flagged flags z) kind.2

-- and the part has only marks
pub flagged_mark : (plan : Plan) (flags : List Bool) (i : ℕ) → flagged plan flags i ≡ true → (e : ℕ) × KindIs plan i (Mark e) × (slice_index_or flags e false ≡ true)
flagged_mark plan flags i h = go (slice_get plan.actions i) refl h
  where
    go : (o : Option Action) → slice_get plan.actions i ≡ o → elim o [ None ↦ false | Some action ↦ is_flagged flags action.kind ] ≡ true
        → (e : ℕ) × KindIs plan i (Mark e) × (slice_index_or flags e false ≡ true)
    go None is g = cc
    go (Some action) is g = by_kind action.kind refl g
      where
        by_kind : (kind : Kind) → action.kind ≡ kind → is_flagged flags kind ≡ true → (e : ℕ) × KindIs plan i (Mark e) × (slice_index_or flags e false ≡ true)
        by_kind (Mark e) at set = (e, (action, is, at), set)
        by_kind (Commit e) at set = cc
        by_kind (Piece e offset size p) at set = cc

nowhere : Tree
nowhere p = Absent

module _ (k : Checkup) (flags : List Bool) (archive : IsListing k.archive) (first : IsListing k.first) (second : IsListing k.second) (valid : Valid (snapshot_of k) k.plan)
    (run : Run) (of : AreOfPart k.plan run flags) where
  abbrev setting : Setting
  setting = record { s = snapshot_of k; plan = k.plan; valid = valid; lawful = listed_lawful k.archive k.first k.second k.rules archive first second; a = nowhere; b = nowhere }

  abbrev part : ℕ → Bool
  part = flagged k.plan flags

  flags_are : (e : ℕ) → (slice_index_or flags e false ≡ true → IsMarkedIn k.plan part e) × (IsMarkedIn k.plan part e → slice_index_or flags e false ≡ true)
  flags_are e = (
    (λ set. let mark = of.marked e set in (mark.0, mark.1, flag_of k.plan flags mark.0 e mark.1 ∙ set)),
    λ (i, kind, taken). sym (flag_of k.plan flags i e kind) ∙ taken,
  )

  flags_right : FlagsAre setting run part of.closed 0 k.plan.entries flags
  flags_right = flags_from setting run part of.closed 0 k.plan.entries flags of.count (λ j less.
      let there = flags_are j in
      let same : j ≡ 0 + j = omega arith in
      ((λ h. subst (λ z. IsMarkedIn k.plan part z) same (there.0 h)), λ h. there.1 (subst (λ z. IsMarkedIn k.plan part z) (sym same) h)))

  all_from : AreFrom k.plan 0 k.plan.entries
  all_from j x is = let same : j ≡ 0 + j = omega arith in subst (λ z. EntryIs k.plan z x) same is

  -- the flagged marks may be put into the archive
  marks_follow : MayFollow (marks (at k.first) (at k.second)) (at k.archive) (picked k.plan.entries flags)
  marks_follow = follows setting run part of.closed (at k.archive) 0 k.plan.entries flags all_from flags_right (marked_start setting run part of.closed)

  -- and leave the part's archive
  part_left : left_by (marks (at k.first) (at k.second)) (at k.archive) (picked k.plan.entries flags) ≡ archive_of_part (snapshot_of k) k.plan part (length k.plan.actions)
  part_left =
      let same : 0 + length k.plan.entries ≡ length k.plan.entries = omega arith in
      let ended = ends_marked setting run part of.closed (at k.archive) 0 k.plan.entries flags all_from flags_right (marked_start setting run part of.closed) in
      archive_is setting run part of.closed (left_by (marks (at k.first) (at k.second)) (at k.archive) (picked k.plan.entries flags))
      (subst (λ n. IsMarkedTo setting run part of.closed n (left_by (marks (at k.first) (at k.second)) (at k.archive) (picked k.plan.entries flags))) same ended)

  -- the same, of values that are these
  pub follow_from : (arc fst snd : Listing Stamp) (entries : List Entry) → arc ≡ k.archive → fst ≡ k.first → snd ≡ k.second → entries ≡ k.plan.entries
      → MayFollow (marks (at fst) (at snd)) (at arc) (picked entries flags)
  follow_from arc fst snd entries arc_is fst_is snd_is entries_are =
      subst (λ (x : Listing Stamp × Listing Stamp × Listing Stamp × List Entry). MayFollow (marks (at x.1) (at x.2)) (at x.0) (picked x.3 flags))
      (λ i. (sym arc_is i, sym fst_is i, sym snd_is i, sym entries_are i)) marks_follow

  pub leave_from : (arc fst snd : Listing Stamp) (entries : List Entry) → arc ≡ k.archive → fst ≡ k.first → snd ≡ k.second → entries ≡ k.plan.entries
      → left_by (marks (at fst) (at snd)) (at arc) (picked entries flags) ≡ archive_of_part (snapshot_of k) k.plan part (length k.plan.actions)
  leave_from arc fst snd entries arc_is fst_is snd_is entries_are =
      (λ i. left_by (marks (at (fst_is i)) (at (snd_is i))) (at (arc_is i)) (picked (entries_are i) flags)) ∙ part_left

-- ---- what a closed board leaves

module _ (k : Checkup) (words : List ℕ) (flags : List Bool) (archive : IsListing k.archive) (first : IsListing k.first) (second : IsListing k.second) (valid : Valid (snapshot_of k) k.plan)
    (long : length flags ≡ length k.plan.entries) (marked : AreMarked k.plan words flags) (t : Terms) (run : Run) (from : IsFromCheck t k) (left : HasLeft t words run) where
  abbrev setting_at : Tree → Tree → Setting
  setting_at a b = record { s = snapshot_of k; plan = k.plan; valid = valid; lawful = listed_lawful k.archive k.first k.second k.rules archive first second; a = a; b = b }

  legal_run : Legal (snapshot_of k) k.plan run
  legal_run = legal_for t k from run left.legal

  ran : IsRun k.plan run
  ran = IsRun-from_legal (snapshot_of k) k.plan valid (start (snapshot_of k) nowhere nowhere) run legal_run

  -- the word of an action says whether it has acted
  word_is : (i : ℕ) (action : Action) → ActionIs k.plan i action → bit_at (slice_index words i) 33 ≡ bit (list_any (finishes i) run)
  word_is i action is =
      let within = slice_get_within k.plan.actions i action is in
      let size_is : length t.plan.actions ≡ length k.plan.actions = ap (λ p. length p.actions) from.0 in
      ap (λ n. bit_at n 33) (left.words_are i (omega arith) ∙ ap (λ p. word_after p run i) from.0) ∙ done_word k.plan run i (few_open (snapshot_of k) k.plan valid run i)

  -- an entry is flagged just where its mark is done, and so has acted
  flag_finished : (i e : ℕ) → KindIs k.plan i (Mark e) → slice_index_or flags e false ≡ true → Has run (finishes i)
  flag_finished i e kind set =
      let found = marked.only e set in
      let one = one_mark (snapshot_of k) k.plan valid found.0 i e found.1 kind in
      subst (λ z. Has run (finishes z)) one (true_from_bit (list_any (finishes found.0) run) (sym (word_is found.0 found.1.0 found.1.1) ∙ found.2))

  flag_acted : (i e : ℕ) → KindIs k.plan i (Mark e) → slice_index_or flags e false ≡ true → Has run (acts i)
  flag_acted i e kind set = ran.ordered.finished i (flag_finished i e kind set)

  acted_flag : (i e : ℕ) → KindIs k.plan i (Mark e) → Has run (acts i) → slice_index_or flags e false ≡ true
  acted_flag i e kind acted =
      let entry = mark_is_marked (snapshot_of k) k.plan valid i e kind in
      marked.all i e (slice_get_within k.plan.actions i kind.0 kind.1) kind (word_is i kind.0 kind.1 ∙ ap bit (left.settled i acted)) (slice_get_within k.plan.entries e entry.0 entry.1)

  -- the flagged marks are those that have acted
  pub of_part : AreOfPart k.plan run flags
  of_part = record {
    count = long;
    marked = λ e set. (let found = marked.only e set in (found.0, found.1));
    closed = closed;
    done = λ i taken. (let mark = flagged_mark k.plan flags i taken in flag_finished i mark.0 mark.1 mark.2);
  }
    where
      closed : IsClosedPart k.plan run (flagged k.plan flags)
      closed = record {
        marks = λ i taken. (let mark = flagged_mark k.plan flags i taken in (mark.0, mark.1));
        acted = λ i taken. (let mark = flagged_mark k.plan flags i taken in flag_acted i mark.0 mark.1 mark.2);
        closed = λ i j e taken waits kind. (let mark = flagged_mark k.plan flags i taken in
            flag_of k.plan flags j e kind ∙ acted_flag j e kind (waited_for k.plan run i j ran (ran.ordered.acted i (flag_acted i mark.0 mark.1 mark.2)) waits));
      }

  -- so the part's archive is the one after the run
  pub part_is : (a b : Tree) → archive_of_part (snapshot_of k) k.plan (flagged k.plan flags) (length k.plan.actions) ≡ (after (snapshot_of k) k.plan (start (snapshot_of k) a b) run).archive
  part_is a b = archive_from_marks (setting_at a b) run legal_run (archive_of_part (snapshot_of k) k.plan (flagged k.plan flags) (length k.plan.actions))
      (λ q none. part_untouched (setting_at a b) run (flagged k.plan flags) of_part.closed q (record { each = λ i e x taken. none.each i e x (of_part.closed.acted i taken) }))
      (λ p rest found only. part_marked (setting_at a b) run (flagged k.plan flags) of_part.closed p rest (record {
        mark = found.mark;
        place = found.place;
        entry = found.entry;
        kind = found.kind;
        is = found.is;
        markable = found.markable;
        at = found.at;
        chosen = flag_of k.plan flags found.mark found.place found.kind ∙ acted_flag found.mark found.place found.kind found.chosen;
      }) only)

  -- the flagged marks leave the archive after the run
  pub marks_leave : (a b : Tree) → left_by (marks (at k.first) (at k.second)) (at k.archive) (picked k.plan.entries flags) ≡ (after (snapshot_of k) k.plan (start (snapshot_of k) a b) run).archive
  marks_leave a b = part_left k flags archive first second valid run of_part ∙ part_is a b

pub if_ok : {A E : Type 0} (P Q : A → Type 0) (r : Result A E) → ((x : A) → P x → Q x) → IfOk r P → IfOk r Q
if_ok P Q (Ok x) f h = f x h
if_ok P Q (Err e) f h = h
