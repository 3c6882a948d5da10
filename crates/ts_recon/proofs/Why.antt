-- The reason of a path, by tests.
use Rattle.std.proofs.Common.{◌≡◌, ◌≢◌, ◌↔◌, Bool, true, false, Some, None, refl, sym, ◌∙◌, subst, inl, inr, IsTrue}
use Rattle.ts_name.specs.Paths.{Path}
use Rattle.ts_model.specs.Trees.{sub}
use Rattle.ts_model.specs.Sync.{Snapshot, AreBothDirs, Agree, IsChanged, TouchesHeld, Because}
use Rattle.ts_model.specs.declared.row.Content.{Content}
use Rattle.ts_model.specs.declared.row.Content.TheVariants.{Dir}
use Rattle.ts_model.specs.declared.row.Stamp.{Stamp}
use Rattle.ts_model.specs.declared.plan.Side.TheVariants as side
use Rattle.ts_model.specs.declared.plan.Reason.{Reason}
use Rattle.ts_model.specs.declared.plan.Reason.TheVariants as reason
use Rattle.ts_dirty.proofs.Dirt.{false_not_true}
use Rattle.ts_recon.specs.Reasons.{IsBecause, IsSeen, differing_reason}
use Rattle.ts_model.proofs.Deciding.{same_stamp_at}

-- where neither replica changed they agree
agree_unchanged : (s : Snapshot) (p : Path) → ¬ IsChanged s side.First p → ¬ IsChanged s side.Second p → Agree s p
agree_unchanged s p first second = λ i. λ rest. same rest i
  where
    is_archive : (t : Path → Content Stamp) → ¬ ((rest : Path) × (sub t p rest ≢ sub s.archive p rest)) → (rest : Path) → sub t p rest ≡ sub s.archive p rest
    is_archive t n rest = elim (same_stamp_at (sub t p rest) (sub s.archive p rest)) [ yes e ↦ e | no differ ↦ absurd (n (rest, differ)) ]

    same : (rest : Path) → sub s.first p rest ≡ sub s.second p rest
    same rest = is_archive s.first first rest ∙ sym (is_archive s.second second rest)

-- the reason where the replicas differ
pub because_differing : (s : Snapshot) (p : Path) (first second held : Bool) → (IsTrue first ↔ IsChanged s side.First p) → (IsTrue second ↔ IsChanged s side.Second p) → (IsTrue held ↔ TouchesHeld s p)
    → ¬ AreBothDirs s.first s.second p → ¬ Agree s p → Because s p (differing_reason first second held)
because_differing s p true true held is_f is_s is_h no_dirs differ = (no_dirs, differ, is_f.0 refl, is_s.0 refl)
because_differing s p true false true is_f is_s is_h no_dirs differ =
    (no_dirs, differ, inl (is_f.0 refl), inr (is_h.0 refl), λ both. false_not_true false refl (is_s.1 both.1))
because_differing s p true false false is_f is_s is_h no_dirs differ =
    (no_dirs, differ, inl (is_f.0 refl), λ dirty. elim dirty [ inl changed ↦ false_not_true false refl (is_s.1 changed) | inr touches ↦ false_not_true false refl (is_h.1 touches) ])
because_differing s p false second true is_f is_s is_h no_dirs differ =
    (no_dirs, differ, inr (is_h.0 refl), inr (is_h.0 refl), λ both. false_not_true false refl (is_f.1 both.0))
because_differing s p false true false is_f is_s is_h no_dirs differ =
    (no_dirs, differ, inl (is_s.0 refl), λ dirty. elim dirty [ inl changed ↦ false_not_true false refl (is_f.1 changed) | inr touches ↦ false_not_true false refl (is_h.1 touches) ])
because_differing s p false false false is_f is_s is_h no_dirs differ =
    absurd (differ (agree_unchanged s p (λ changed. false_not_true false refl (is_f.1 changed)) (λ changed. false_not_true false refl (is_s.1 changed))))

-- a directory on both sides has the reason Dir, where the archive has none
pub because_dir : (s : Snapshot) (p : Path) → AreBothDirs s.first s.second p → s.archive p ≢ Dir → Because s p reason.Dir
because_dir s p dirs new = (dirs, new)

-- and none, where the archive has one
no_dir : (s : Snapshot) (p : Path) → AreBothDirs s.first s.second p → s.archive p ≡ Dir → (r : Reason) → ¬ Because s p r
no_dir s p dirs old reason.Dir why = why.1 old
no_dir s p dirs old _ why = why.0 dirs

-- where the replicas agree with one another and the archive there is none
no_same : (s : Snapshot) (p : Path) → ¬ AreBothDirs s.first s.second p → Agree s p → ¬ IsChanged s side.First p → (r : Reason) → ¬ Because s p r
no_same s p no_dirs agree old reason.Dir why = no_dirs why.0
no_same s p no_dirs agree old reason.Same why = old why.2
no_same s p no_dirs agree old _ why = why.1 agree

-- ---- of what a walk sees

module _ (s : Snapshot) (p : Path) (archive first second : Content Stamp) (seen : IsSeen s p archive first second) where
  dirs_from : (shared : Bool) → (IsTrue shared ↔ ((first ≡ Dir) × (second ≡ Dir))) → shared ≡ true → AreBothDirs s.first s.second p
  dirs_from shared is e = let both = is.0 e in (seen.in_first ∙ both.0, seen.in_second ∙ both.1)

  no_dirs_from : (shared : Bool) → (IsTrue shared ↔ ((first ≡ Dir) × (second ≡ Dir))) → shared ≡ false → ¬ AreBothDirs s.first s.second p
  no_dirs_from shared is e dirs = false_not_true shared e (is.1 (sym seen.in_first ∙ dirs.0, sym seen.in_second ∙ dirs.1))

  pub seen_old_dir : (shared old : Bool) → (IsTrue shared ↔ ((first ≡ Dir) × (second ≡ Dir))) → shared ≡ true → (IsTrue old ↔ (archive ≡ Dir)) → old ≡ true → IsBecause s p None
  seen_old_dir shared old is e is_old o = no_dir s p (dirs_from shared is e) (seen.in_archive ∙ is_old.0 o)

  pub seen_new_dir : (shared old : Bool) → (IsTrue shared ↔ ((first ≡ Dir) × (second ≡ Dir))) → shared ≡ true → (IsTrue old ↔ (archive ≡ Dir)) → old ≡ false → IsBecause s p (Some reason.Dir)
  seen_new_dir shared old is e is_old o = because_dir s p (dirs_from shared is e) (λ f. false_not_true old o (is_old.1 (sym seen.in_archive ∙ f)))

  pub seen_same : (shared agree changed : Bool) → (IsTrue shared ↔ ((first ≡ Dir) × (second ≡ Dir))) → shared ≡ false → (IsTrue agree ↔ Agree s p) → agree ≡ true → (IsTrue changed ↔ IsChanged s side.First p) → changed ≡ true
      → IsBecause s p (Some reason.Same)
  seen_same shared agree changed is e is_agree a is_changed c = (no_dirs_from shared is e, is_agree.0 a, is_changed.0 c)

  pub seen_nothing : (shared agree changed : Bool) → (IsTrue shared ↔ ((first ≡ Dir) × (second ≡ Dir))) → shared ≡ false → (IsTrue agree ↔ Agree s p) → agree ≡ true → (IsTrue changed ↔ IsChanged s side.First p) → changed ≡ false
      → IsBecause s p None
  seen_nothing shared agree changed is e is_agree a is_changed c = no_same s p (no_dirs_from shared is e) (is_agree.0 a) (λ h. false_not_true changed c (is_changed.1 h))

  pub seen_differing : (shared agree first_changed second_changed held : Bool) (r : Reason) → (IsTrue shared ↔ ((first ≡ Dir) × (second ≡ Dir))) → shared ≡ false → (IsTrue agree ↔ Agree s p) → agree ≡ false
      → (IsTrue first_changed ↔ IsChanged s side.First p) → (IsTrue second_changed ↔ IsChanged s side.Second p) → (IsTrue held ↔ TouchesHeld s p)
      → r ≡ differing_reason first_changed second_changed held → IsBecause s p (Some r)
  seen_differing shared agree fc sc held r is e is_agree a is_f is_s is_h same =
      subst (λ (x : Reason). Because s p x) (sym same) (because_differing s p fc sc held is_f is_s is_h (no_dirs_from shared is e) (λ h. false_not_true agree a (is_agree.1 h)))
