-- The entries of a plan: exactly the paths with a reason, and the nearest new directory above one is at its parent.
use Rattle.std.proofs.Common.{◌≡◌, ◌≢◌, ℕ, [], ◌∷◌, ◌++◌, sym, ap, ◌∙◌, subst, append_assoc, append-nil}
use Rattle.ts_name.specs.Paths.{Name, Path, IsAbove}
use Rattle.ts_model.specs.Sync.{Snapshot, IsSnapshot, IsBelowDirs, HasReason}
use Rattle.ts_model.specs.Plans.{EntryIs, NearestDir, Wrong, Valid}
use Rattle.ts_model.specs.declared.plan.PlanRule.TheVariants.{ReasonsHold, EntriesComplete}
use Rattle.ts_model.specs.declared.plan.Reason.{Reason}
use Rattle.ts_model.specs.declared.plan.Reason.TheVariants as reason
use Rattle.ts_model.specs.declared.plan.Entry.{Entry}
use Rattle.ts_model.specs.declared.plan.Plan.{Plan}
use Rattle.ts_laws.specs.Laws.{IsEntryOf, EntriesAreReasons}
use Rattle.ts_laws.proofs.Basics.{stable}
use Rattle.ts_name.proofs.Prefixes.{above_parent, not_below_itself}
use Rattle.ts_laws.proofs.Reasons.{IsWhole-from_snapshot, one_reason, Below-from, Dir-nothing_below, new_dir_reason}
use Rattle.ts_laws.proofs.Steps.{reason_holds}
use Rattle.ts_laws.proofs.Plans.{entry_from_complete, one_place}
use Rattle.ts_laws.proofs.Deciding.{decide_has_reason}

-- an entry's path has its reason
pub entry_has_reason : (s : Snapshot) (plan : Plan) → IsSnapshot s → Valid s plan → (p : Path) (r : Reason) → IsEntryOf plan p r → HasReason s p r
entry_has_reason s plan lawful valid p r is =
    let entry = is.1 in
    let has = stable (decide_has_reason s lawful entry.path entry.reason) (reason_holds s plan valid is.0 entry is.2) in
    subst (λ z. HasReason s z r) is.3 (subst (λ z. HasReason s entry.path z) is.4 has)

-- a path with a reason has an entry with that reason, where reasons hold and entries are complete
reason_entry : (s : Snapshot) (plan : Plan) → ((place : ℕ) → ¬ Wrong s plan ReasonsHold place) → ((place : ℕ) → ¬ Wrong s plan EntriesComplete place) → (p : Path) (r : Reason) → HasReason s p r → IsEntryOf plan p r
reason_entry s plan reasons complete p r has =
    let found = entry_from_complete s plan complete p r has in (
      found.0,
      found.1,
      found.2,
      found.3,
      one_reason s p found.1.reason r
          (λ n. reasons found.0 (found.1, found.2, λ here. n (subst (λ z. HasReason s z found.1.reason) found.3 here)))
          (λ n. n has),
    )

-- so it is in a valid plan
pub reason_has_entry : (s : Snapshot) (plan : Plan) → Valid s plan → (p : Path) (r : Reason) → HasReason s p r → IsEntryOf plan p r
reason_has_entry s plan valid p r has = reason_entry s plan (valid ReasonsHold) (valid EntriesComplete) p r has

-- entries are the paths with a reason
pub entries_are_reasons : (s : Snapshot) (plan : Plan) → IsSnapshot s → Valid s plan → EntriesAreReasons s plan
entries_are_reasons s plan lawful valid = record {
  same = λ p r. (reason_has_entry s plan valid p r, entry_has_reason s plan lawful valid p r);
  once = one_place s plan valid;
}

-- ---- the nearest new directory above

-- a new directory at the parent is the nearest
pub parent_is_nearest : (plan : Plan) (e d : ℕ) (below dir : Entry) (name : Name) → EntryIs plan e below → EntryIs plan d dir → dir.reason ≡ reason.Dir
    → below.path ≡ dir.path ++ name ∷ [] → NearestDir plan e d
parent_is_nearest plan e d below dir name is_below is_dir new parent = record {
  below = below;
  is_below = is_below;
  dir = dir;
  is_dir = is_dir;
  new_dir = new;
  above = (name ∷ [], parent);
  strictly = λ same. not_below_itself dir.path name [] (same ∙ parent);
  nearest = λ k other is other_new above strict. over other.path above.0 above.1 strict;
}
  where
    over : (p rest : Path) → below.path ≡ p ++ rest → p ≢ below.path → IsAbove p dir.path
    over p [] at strict = absurd (strict (sym (at ∙ append-nil p)))
    over p (n ∷ rest) at strict = above_parent p n rest dir.path name (sym at ∙ parent)

module _ (s : Snapshot) (plan : Plan) (lawful : IsSnapshot s) (reasons : (place : ℕ) → ¬ Wrong s plan ReasonsHold place) (complete : (place : ℕ) → ¬ Wrong s plan EntriesComplete place) where
  -- an entry's reason holds
  reason_of : (e : ℕ) (entry : Entry) → EntryIs plan e entry → ¬ (¬ HasReason s entry.path entry.reason)
  reason_of e entry is = λ n. reasons e (entry, is, n)

  -- the nearest new directory strictly above an entry is at its parent
  pub nearest_is_parent : (e d : ℕ) (h : NearestDir plan e d) → (name : Name) × (h.below.path ≡ h.dir.path ++ name ∷ [])
  nearest_is_parent e d h = over h.above.0 h.above.1
    where
      below : IsBelowDirs s.first s.second h.below.path
      below = Below-from s h.below.path h.below.reason (reason_of e h.below h.is_below)

      -- no entry of a new directory is between the two
      none_between : (m : Name) (ms : Path) → below.0 ≡ h.dir.path ++ m ∷ ms → (k : ℕ) (entry : Entry) → EntryIs plan k entry → entry.path ≡ below.0 → entry.reason ≡ reason.Dir → ⊥
      none_between m ms at k entry is same new =
          let over : h.below.path ≡ entry.path ++ below.1 ∷ [] = below.2 ∙ ap (λ z. z ++ below.1 ∷ []) (sym same) in
          let further = h.nearest k entry is new (below.1 ∷ [], over) (λ e. not_below_itself entry.path below.1 [] (e ∙ over)) in
          let beyond : entry.path ++ further.0 ≡ h.dir.path ++ m ∷ (ms ++ further.0) = ap (λ z. z ++ further.0) (same ∙ at) ∙ append_assoc h.dir.path (m ∷ ms) further.0 in
          not_below_itself h.dir.path m (ms ++ further.0) (further.1 ∙ beyond)

      -- though a directory between them would be new
      nearer : (m : Name) (ms : Path) → below.0 ≡ h.dir.path ++ m ∷ ms → ⊥
      nearer m ms at =
          let nothing = Dir-nothing_below s (IsWhole-from_snapshot s lawful) h.dir.path m ms (subst (λ z. ¬ (¬ HasReason s h.dir.path z)) h.new_dir (reason_of d h.dir h.is_dir)) in
          let found = reason_entry s plan reasons complete below.0 reason.Dir (new_dir_reason s lawful below.0 below.3 (λ dir. let e = sym (ap s.archive at ∙ nothing) ∙ dir in cc)) in
          none_between m ms at found.0 found.1 found.2 found.3 found.4

      -- so the parent is the directory
      at_parent : (more : Path) → below.0 ≡ h.dir.path ++ more → (name : Name) × (h.below.path ≡ h.dir.path ++ name ∷ [])
      at_parent [] at = (below.1, below.2 ∙ ap (λ z. z ++ below.1 ∷ []) (at ∙ append-nil h.dir.path))
      at_parent (m ∷ ms) at = absurd (nearer m ms at)

      over : (rest : Path) → h.below.path ≡ h.dir.path ++ rest → (name : Name) × (h.below.path ≡ h.dir.path ++ name ∷ [])
      over [] at = absurd (h.strictly (sym (at ∙ append-nil h.dir.path)))
      over (n ∷ ns) at = let found = above_parent h.dir.path n ns below.0 below.1 (sym at ∙ below.2) in at_parent found.0 found.1
