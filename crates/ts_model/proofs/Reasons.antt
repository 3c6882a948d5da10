-- A path has one reason, and none where nothing is; and which side an entry of a reason is copied from.
use Rattle.std.proofs.Common.{◌≡◌, ◌≢◌, Bool, true, false, Option, Some, [], refl, sym, ap, ◌∙◌, inl, inr, append-nil}
use Rattle.std.proofs.lemmas.Bool.{true≢false}
use Rattle.ts_name.specs.Paths.{Path}
use Rattle.ts_model.specs.Trees.{sub}
use Rattle.ts_model.specs.Sync.{Snapshot, AreBothDirs, Agree, Because, IsSkipped, treatment}
use Rattle.ts_model.specs.Plans.{is_from, is_side, source}
use Rattle.ts_model.specs.declared.row.Content.{Content}
use Rattle.ts_model.specs.declared.row.Content.TheVariants.{Absent, Dir}
use Rattle.ts_model.specs.declared.row.Stamp.{Stamp}
use Rattle.ts_model.specs.declared.plan.Side.{Side}
use Rattle.ts_model.specs.declared.plan.Side.TheVariants as side
use Rattle.ts_model.specs.declared.plan.Reason.{Reason}
use Rattle.ts_model.specs.declared.plan.Reason.TheVariants as reason
use Rattle.ts_model.specs.declared.plan.Treatment.TheVariants.{Agreed, NewDirectory, Skipped}

-- a reason other than Dir is of a path that isn't a directory on both sides
pub no_dirs_because : (s : Snapshot) (p : Path) (r : Reason) → r ≢ reason.Dir → Because s p r → ¬ AreBothDirs s.first s.second p
no_dirs_because s p reason.Dir differ why dirs = differ refl
no_dirs_because s p _ differ why dirs = why.0 dirs

-- a path has one reason
pub one_because : (s : Snapshot) (p : Path) (x y : Reason) → Because s p x → Because s p y → x ≡ y
one_because s p reason.Dir reason.Dir h k = refl
one_because s p reason.Same reason.Same h k = refl
one_because s p reason.First reason.First h k = refl
one_because s p reason.Second reason.Second h k = refl
one_because s p reason.Conflict reason.Conflict h k = refl
one_because s p reason.Held reason.Held h k = refl
one_because s p reason.Dir _ h k = absurd (k.0 h.0)
one_because s p _ reason.Dir h k = absurd (h.0 k.0)
one_because s p reason.Same _ h k = absurd (k.1 h.1)
one_because s p _ reason.Same h k = absurd (h.1 k.1)
one_because s p reason.First reason.Second h k = absurd (h.3 k.2)
one_because s p reason.First reason.Conflict h k = absurd (h.3 (inl k.3))
one_because s p reason.First reason.Held h k = absurd (h.3 k.3)
one_because s p reason.Second reason.First h k = absurd (h.3 k.2)
one_because s p reason.Second reason.Conflict h k = absurd (h.3 (inl k.2))
one_because s p reason.Second reason.Held h k = absurd (h.3 k.2)
one_because s p reason.Conflict reason.First h k = absurd (k.3 (inl h.3))
one_because s p reason.Conflict reason.Second h k = absurd (k.3 (inl h.2))
one_because s p reason.Conflict reason.Held h k = absurd (k.4 (h.2, h.3))
one_because s p reason.Held reason.First h k = absurd (k.3 h.3)
one_because s p reason.Held reason.Second h k = absurd (k.3 h.2)
one_because s p reason.Held reason.Conflict h k = absurd (h.4 (k.2, k.3))

-- where the replicas and the archive have nothing, at the path and below it, there is no reason
pub nothing_no_reason : (s : Snapshot) (p : Path) → ((rest : Path) → sub s.first p rest ≡ Absent) → ((rest : Path) → sub s.second p rest ≡ Absent) → ((rest : Path) → sub s.archive p rest ≡ Absent)
    → (r : Reason) → ¬ Because s p r
nothing_no_reason s p no_first no_second no_archive = go
  where
    agree : Agree s p
    agree = λ i. λ rest. same rest i
      where
        same : (rest : Path) → sub s.first p rest ≡ sub s.second p rest
        same rest = no_first rest ∙ sym (no_second rest)

    go : (r : Reason) → ¬ Because s p r
    go reason.Dir why = let e : ◌≡◌ {A = Content Stamp} Dir Absent = sym why.0.0 ∙ ap s.first (sym (append-nil p)) ∙ no_first [] in cc
    go reason.Same why = why.2.1 (no_first why.2.0 ∙ sym (no_archive why.2.0))
    go _ why = why.1 agree

-- ---- what is done about an entry

-- what both replicas agree on is the same in both
pub same_from_agreed : (r : Reason) → treatment r ≡ Agreed → r ≡ reason.Same
same_from_agreed reason.Same h = refl
same_from_agreed _ h = cc

-- a new directory is one in both replicas
pub dir_from_new : (r : Reason) → treatment r ≡ NewDirectory → r ≡ reason.Dir
dir_from_new reason.Dir h = refl
dir_from_new _ h = cc

-- and a skipped entry is a conflict or held
pub skipped_from_left : (r : Reason) → treatment r ≡ Skipped → IsSkipped r
skipped_from_left reason.Conflict h = inl refl
skipped_from_left reason.Held h = inr refl
skipped_from_left _ h = cc

pub left_from_skipped : (r : Reason) → IsSkipped r → treatment r ≡ Skipped
left_from_skipped r skipped = elim skipped [ inl e ↦ ap treatment e | inr e ↦ ap treatment e ]

-- ---- the side that an entry is copied from

side_from_test : (on : Side) (from : Option Side) → is_side on from ≡ true → from ≡ Some on
side_from_test side.First (Some side.First) h = refl
side_from_test side.Second (Some side.Second) h = refl
side_from_test _ _ h = cc

-- what tests as copied from a side is
pub source_from_test : (on : Side) (r : Reason) → is_from on r ≡ true → source r ≡ Some on
source_from_test on r h = side_from_test on (source r) h

same_side : (on : Side) → is_side on (Some on) ≡ true
same_side side.First = refl
same_side side.Second = refl

-- and the other way round
pub test_from_source : (on : Side) (r : Reason) → source r ≡ Some on → is_from on r ≡ true
test_from_source on r h = ap (is_side on) h ∙ same_side on

-- it is known whether an entry is copied from a side
pub decide_from : (on : Side) (r : Reason) → Dec (source r ≡ Some on)
decide_from on r = go (is_from on r) refl
  where
    go : (test : Bool) → is_from on r ≡ test → Dec (source r ≡ Some on)
    go true e = yes (source_from_test on r e)
    go false e = no (λ h. true≢false (sym (test_from_source on r h) ∙ e))
