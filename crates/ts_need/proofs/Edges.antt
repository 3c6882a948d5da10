-- The reason of a path by what is the same and what is held.
use Rattle.std.proofs.Common.{◌≡◌, ◌≢◌, Bool, true, false, IsTrue, Option, Some, None, sym, refl, ap, ◌∙◌, subst, inl, inr}
use Rattle.ts_name.specs.Paths.{Path}
use Rattle.ts_model.specs.Sync.{Snapshot, IsSnapshot, IsChanged, TouchesHeld, IsBelowDirs, AreBothDirs, HasReason, replica}
use Rattle.ts_model.specs.Trees.{sub}
use Rattle.ts_model.specs.declared.plan.Reason.{Reason}
use Rattle.ts_model.specs.declared.plan.Reason.TheVariants as reason
use Rattle.ts_model.specs.declared.plan.Side.{Side}
use Rattle.ts_model.specs.declared.plan.Side.TheVariants as side
use Rattle.ts_model.specs.declared.row.Content.TheVariants.{Dir}
use Rattle.ts_laws.proofs.Basics.{stable}
use Rattle.ts_name.proofs.Basics.{by_each}
use Rattle.ts_laws.proofs.Deciding.{decide_changed}
use Rattle.ts_model.proofs.Reasons.{one_because}
use Rattle.ts_need.specs.Needs.{IsReasonOf, difference_reason}
use Rattle.ts_model.proofs.Deciding.{same_stamp_at}

-- a test and the fact that it decides
pub data Tells (b : Bool) (P : Type 0) : Type 0 where
  holds : b ≡ true → P → Tells b P
  fails : b ≡ false → ¬ P → Tells b P

pub Tells-from : (b : Bool) (P : Type 0) → (IsTrue b → P) → (P → IsTrue b) → Tells b P
Tells-from true P h k = holds refl (h refl)
Tells-from false P h k = fails refl (λ p. let e = k p in cc)

module _ (s : Snapshot) (lawful : IsSnapshot s) (p : Path) where
  pub differ_changed : (on : Side) → ¬ (sub (replica s on) p ≡ sub s.archive p) → IsChanged s on p
  differ_changed on differ = elim (decide_changed s lawful on p) [
    | yes changed ↦ changed
    | no not_changed ↦ absurd (differ (by_each (sub (replica s on) p) (sub s.archive p) (λ rest. stable (same_stamp_at (sub (replica s on) p rest) (sub s.archive p rest)) (λ n. not_changed (rest, n)))))
  ]

  -- the reason of a path that isn't a directory in both replicas, where the replicas differ
  pub differ_reason : IsBelowDirs s.first s.second p → ¬ AreBothDirs s.first s.second p → ¬ (sub s.first p ≡ sub s.second p)
      → (first second held : Bool) → Tells first (IsChanged s side.First p) → Tells second (IsChanged s side.Second p) → Tells held (TouchesHeld s p)
      → HasReason s p (difference_reason first second held)
  differ_reason below edge apart first second held (holds a x) (holds b y) at_held = subst (λ z. HasReason s p z) (sym (ap (λ z. difference_reason z second held) a ∙ ap (λ z. difference_reason true z held) b)) (below, (edge, apart, x, y))
  differ_reason below edge apart first second held (holds a x) (fails b y) (holds d z) =
      subst (λ w. HasReason s p w) (sym (ap (λ w. difference_reason w second held) a ∙ ap (λ w. difference_reason true w held) b ∙ ap (λ w. difference_reason true false w) d)) (below, (edge, apart, inl x, inr z, λ both. y both.1))
  differ_reason below edge apart first second held (holds a x) (fails b y) (fails d z) =
      subst (λ w. HasReason s p w) (sym (ap (λ w. difference_reason w second held) a ∙ ap (λ w. difference_reason true w held) b ∙ ap (λ w. difference_reason true false w) d)) (below, (edge, apart, inl x, λ dirty. elim dirty [ inl h ↦ y h | inr h ↦ z h ]))
  differ_reason below edge apart first second held (fails a x) (holds b y) (holds d z) =
      subst (λ w. HasReason s p w) (sym (ap (λ w. difference_reason w second held) a ∙ ap (λ w. difference_reason false w held) b ∙ ap (λ w. difference_reason false true w) d)) (below, (edge, apart, inr z, inl y, λ both. x both.0))
  differ_reason below edge apart first second held (fails a x) (holds b y) (fails d z) =
      subst (λ w. HasReason s p w) (sym (ap (λ w. difference_reason w second held) a ∙ ap (λ w. difference_reason false w held) b ∙ ap (λ w. difference_reason false true w) d)) (below, (edge, apart, inl y, λ dirty. elim dirty [ inl h ↦ x h | inr h ↦ z h ]))
  differ_reason below edge apart first second held (fails a x) (fails b y) at_held = absurd (
      stable_same (λ n. x (differ_changed side.First n)) (λ f. stable_same_second (λ n. y (differ_changed side.Second n)) (λ g. apart (f ∙ sym g))))
    where
      stable_same : ¬ (¬ (sub s.first p ≡ sub s.archive p)) → ¬ (¬ (sub s.first p ≡ sub s.archive p))
      stable_same h = h

      stable_same_second : ¬ (¬ (sub s.second p ≡ sub s.archive p)) → ¬ (¬ (sub s.second p ≡ sub s.archive p))
      stable_same_second h = h

  -- where they are the same
  pub same_reason : IsBelowDirs s.first s.second p → ¬ AreBothDirs s.first s.second p → sub s.first p ≡ sub s.second p → IsChanged s side.First p → HasReason s p reason.Same
  same_reason below edge agree changed = (below, (edge, agree, changed))

  pub same_none : ¬ AreBothDirs s.first s.second p → sub s.first p ≡ sub s.second p → ¬ IsChanged s side.First p → (r : Reason) → ¬ HasReason s p r
  same_none edge agree unchanged reason.Dir has = edge has.1.0
  same_none edge agree unchanged reason.Same has = unchanged has.1.2
  same_none edge agree unchanged reason.First has = has.1.1 agree
  same_none edge agree unchanged reason.Second has = has.1.1 agree
  same_none edge agree unchanged reason.Conflict has = has.1.1 agree
  same_none edge agree unchanged reason.Held has = has.1.1 agree

  -- a directory in both
  pub dirs_none : AreBothDirs s.first s.second p → s.archive p ≡ Dir → (r : Reason) → ¬ HasReason s p r
  dirs_none both old reason.Dir has = has.1.1 old
  dirs_none both old reason.Same has = has.1.0 both
  dirs_none both old reason.First has = has.1.0 both
  dirs_none both old reason.Second has = has.1.0 both
  dirs_none both old reason.Conflict has = has.1.0 both
  dirs_none both old reason.Held has = has.1.0 both

-- a reason that wasn't found isn't the path's
pub wrong_reason : (s : Snapshot) (p : Path) (found : Option Reason) (r : Reason) → IsReasonOf s p found → found ≢ Some r → ¬ HasReason s p r
wrong_reason s p None r none differ has = none r has
wrong_reason s p (Some q) r is differ has = differ (ap Some (one_because s p q r is.1 has.1))

-- and one that was is
pub right_reason : (s : Snapshot) (p : Path) (found : Option Reason) (r : Reason) → IsReasonOf s p found → found ≡ Some r → HasReason s p r
right_reason s p found r is same = subst (λ z. IsReasonOf s p z) same is
