-- From rule to rule.
use Rattle.std.proofs.Common.{◌≡◌, ℕ, zero, suc, ◌+◌, ◌<◌, ◌≤◌, List, length, Option, Some, None, sym, refl, ap, ◌∙◌, subst, inl, inr, arith}
use Rattle.std.specs.List.{sum_by}
use Rattle.std.proofs.lemmas.Bool.{cases_eq, cases_lt}
use Rattle.ts_name.specs.Paths.{Path}
use Rattle.ts_name.proofs.Prefixes.{snoc_not_empty}
use Rattle.ts_model.specs.Sync.{Snapshot, listed_snapshot, replica}
use Rattle.ts_model.specs.Trees.{Listing, at}
use Rattle.ts_model.specs.Plans.{Wrong, Broken, Valid, WithinLimits, NotOneEach, IsCopied, IsPiece, rule_number}
use Rattle.ts_model.specs.declared.hold.Rule.{Rule}
use Rattle.ts_model.specs.declared.plan.Action.{Action}
use Rattle.ts_model.specs.declared.plan.Side.{Side}
use Rattle.ts_model.specs.declared.plan.Side.TheVariants as side
use Rattle.ts_model.specs.declared.plan.Kind.TheVariants.{Commit}
use Rattle.ts_model.specs.declared.plan.Plan.{Plan}
use Rattle.ts_model.specs.declared.plan.PlanRule.{PlanRule}
use Rattle.ts_model.specs.declared.plan.PlanRule.TheVariants.{Limits, EntriesAscend, ReasonsHold, EntriesComplete, PredsAscend, OneCommit, PiecesLawful, PiecesComplete, OneMark, PiecesFirst, CommitFirst, DirFirst}
use Rattle.ts_model.specs.declared.row.Stamp.{Stamp}
use Rattle.ts_need.specs.declared.broken.Broken.{Broken as NeedBroken}
use Rattle.ts_need.specs.Needs.{IsNeedAnswer}
use Rattle.ts_need.proofs.Lacking.{IsFirst-same}
use Rattle.ts_check.specs.Places.{IsFirst, Never, NotOneOf}
use Rattle.ts_check.specs.Pieces.{on_side, IsPieceIn, IsUnlawful, NotEachOnce, HasNoRoot}
use Rattle.ts_check.specs.Verdict.{HoldBelow}
use Rattle.ts_check.specs.declared.census.Role.TheVariants.{Commits}

-- the rule of a number
rule_of : ℕ → PlanRule
rule_of zero = Limits
rule_of (suc zero) = Limits
rule_of (suc (suc zero)) = EntriesAscend
rule_of (suc (suc (suc zero))) = ReasonsHold
rule_of (suc (suc (suc (suc zero)))) = EntriesComplete
rule_of (suc (suc (suc (suc (suc zero))))) = PredsAscend
rule_of (suc (suc (suc (suc (suc (suc zero)))))) = OneCommit
rule_of (suc (suc (suc (suc (suc (suc (suc zero))))))) = PiecesLawful
rule_of (suc (suc (suc (suc (suc (suc (suc (suc zero)))))))) = PiecesComplete
rule_of (suc (suc (suc (suc (suc (suc (suc (suc (suc zero))))))))) = OneMark
rule_of (suc (suc (suc (suc (suc (suc (suc (suc (suc (suc zero)))))))))) = PiecesFirst
rule_of (suc (suc (suc (suc (suc (suc (suc (suc (suc (suc (suc zero))))))))))) = CommitFirst
rule_of (suc (suc (suc (suc (suc (suc (suc (suc (suc (suc (suc (suc n)))))))))))) = DirFirst

rule_of_number : (r : PlanRule) → rule_of (rule_number r) ≡ r
unfolding rule_of
rule_of_number Limits = refl
rule_of_number EntriesAscend = refl
rule_of_number ReasonsHold = refl
rule_of_number EntriesComplete = refl
rule_of_number PredsAscend = refl
rule_of_number OneCommit = refl
rule_of_number PiecesLawful = refl
rule_of_number PiecesComplete = refl
rule_of_number OneMark = refl
rule_of_number PiecesFirst = refl
rule_of_number CommitFirst = refl
rule_of_number DirFirst = refl

some_number : (r : PlanRule) → (0 < rule_number r) × (rule_number r < 13)
some_number Limits = (omega arith, omega arith)
some_number EntriesAscend = (omega arith, omega arith)
some_number ReasonsHold = (omega arith, omega arith)
some_number EntriesComplete = (omega arith, omega arith)
some_number PredsAscend = (omega arith, omega arith)
some_number OneCommit = (omega arith, omega arith)
some_number PiecesLawful = (omega arith, omega arith)
some_number PiecesComplete = (omega arith, omega arith)
some_number OneMark = (omega arith, omega arith)
some_number PiecesFirst = (omega arith, omega arith)
some_number CommitFirst = (omega arith, omega arith)
some_number DirFirst = (omega arith, omega arith)

-- before the first rule there is none
pub hold_none : (s : Snapshot) (plan : Plan) → HoldBelow s plan 1
hold_none s plan rule place less wrong = let some = some_number rule in omega (arith, some.0)

-- one rule more
pub hold_more : (s : Snapshot) (plan : Plan) (n : ℕ) (rule : PlanRule) → rule_number rule ≡ n → HoldBelow s plan n → Never (Wrong s plan rule) → HoldBelow s plan (n + 1)
hold_more s plan n rule is before never other place less wrong = elim (cases_eq (rule_number other) n) [
  | inl same ↦ (
      let one : other ≡ rule = sym (rule_of_number other) ∙ ap rule_of (same ∙ sym is) ∙ rule_of_number rule in
      never place (subst (λ r. Wrong s plan r place) one wrong))
  | inr differ ↦ before other place (omega arith) wrong
]

-- after the last all hold
pub hold_all : (s : Snapshot) (plan : Plan) → HoldBelow s plan 13 → Valid s plan
hold_all s plan all rule place = all rule place (some_number rule).1

-- the first broken rule
pub broken_here : (s : Snapshot) (plan : Plan) (rule : PlanRule) (place : ℕ) → HoldBelow s plan (rule_number rule) → IsFirst (Wrong s plan rule) (Some place) → Broken s plan rule place
broken_here s plan rule place before first = record { earlier = λ r k less. before r k less; wrong = first.0; least = first.1 }

-- ---- what the rules that hold say

pub limits_hold : (s : Snapshot) (plan : Plan) → HoldBelow s plan 3 → (length plan.entries ≤ 1048576) × (length plan.actions ≤ 1048576)
limits_hold s plan before = (entries, actions)
  where
    within : ¬ (¬ WithinLimits plan)
    within n = before Limits 0 (omega arith) (refl, n)

    entries : length plan.entries ≤ 1048576
    entries = elim (cases_lt 1048576 (length plan.entries)) [ inl past ↦ absurd (within (λ h. let e = h.entries in omega arith)) | inr fine ↦ fine ]

    actions : length plan.actions ≤ 1048576
    actions = elim (cases_lt 1048576 (length plan.actions)) [ inl past ↦ absurd (within (λ h. let e = h.actions in omega arith)) | inr fine ↦ fine ]

pub preds_hold : (s : Snapshot) (plan : Plan) → HoldBelow s plan 3 → sum_by (λ (a : Action). length a.preds) plan.actions ≤ 4194304
preds_hold s plan before = elim (cases_lt 4194304 (sum_by (λ (a : Action). length a.preds) plan.actions)) [ inl past ↦ absurd (before Limits 0 (omega arith) (refl, λ (h : WithinLimits plan). let e = h.preds in omega arith)) | inr fine ↦ fine ]

pub no_root : (s : Snapshot) (plan : Plan) → HoldBelow s plan 5 → HasNoRoot plan
no_root s plan before e entry is root = before ReasonsHold e (omega arith) (entry, is, λ has. snoc_not_empty has.0.0 has.0.1 (sym has.0.2 ∙ root))

-- ---- the checker's words and the rules

-- one commit for each copied entry
one_to : (plan : Plan) (k : ℕ) → NotOneOf plan Commits k → NotOneEach plan Commit (IsCopied plan) k
one_to plan k (inl h) = inl (h.0, h.1, elim h.2 [ inl unwanted ↦ inl (λ copied. unwanted (copied.0, copied.2.0, (copied.1, copied.2.1))) | inr earlier ↦ inr earlier ])
one_to plan k (inr h) = inr (h.0, h.1, (h.2.0, h.2.2.0, (h.2.1, h.2.2.1)), h.3)

one_from : (plan : Plan) (k : ℕ) → NotOneEach plan Commit (IsCopied plan) k → NotOneOf plan Commits k
one_from plan k (inl h) = inl (h.0, h.1, elim h.2 [ inl unwanted ↦ inl (λ wants. unwanted (wants.0, wants.2.0, (wants.1, wants.2.1))) | inr earlier ↦ inr earlier ])
one_from plan k (inr h) = inr (h.0, h.1, (h.2.0, h.2.2.0, (h.2.1, h.2.2.1)), h.3)

pub first_commit : (s : Snapshot) (plan : Plan) (o : Option ℕ) → IsFirst (NotOneOf plan Commits) o → IsFirst (Wrong s plan OneCommit) o
first_commit s plan o = IsFirst-same (NotOneOf plan Commits) (Wrong s plan OneCommit) (one_to plan) (one_from plan) o

pub hold_commits : (s : Snapshot) (plan : Plan) → HoldBelow s plan 5 → Never (Wrong s plan PredsAscend) → IsFirst (NotOneOf plan Commits) None → HoldBelow s plan 7
hold_commits s plan before preds commits =
    hold_more s plan 6 OneCommit refl (hold_more s plan 5 PredsAscend refl before preds) (first_commit s plan None commits)

module _ (xs ys zs : Listing Stamp) (rules : List Rule) (plan : Plan) where
  at_side : (from : Side) (p : Path) → at (on_side ys zs from) p ≡ replica (listed_snapshot xs ys zs rules) from p
  at_side side.First p = refl
  at_side side.Second p = refl

  piece_to : (e offset len : ℕ) (p : Path) → IsPieceIn ys zs plan e offset len p → IsPiece (listed_snapshot xs ys zs rules) plan e offset len p
  piece_to e offset len p h = (h.0, h.1, h.2, h.3, h.4, sym (at_side h.1 p) ∙ h.5, h.6)

  piece_from : (e offset len : ℕ) (p : Path) → IsPiece (listed_snapshot xs ys zs rules) plan e offset len p → IsPieceIn ys zs plan e offset len p
  piece_from e offset len p h = (h.0, h.1, h.2, h.3, h.4, at_side h.1 p ∙ h.5, h.6)

  pub first_lawful : (o : Option ℕ) → IsFirst (IsUnlawful ys zs plan) o → IsFirst (Wrong (listed_snapshot xs ys zs rules) plan PiecesLawful) o
  first_lawful o = IsFirst-same (IsUnlawful ys zs plan) (Wrong (listed_snapshot xs ys zs rules) plan PiecesLawful)
      (λ k h. (h.0, h.1, h.2, h.3, h.4, λ piece. h.5 (piece_from h.0 h.1 h.2 h.3 piece))) (λ k h. (h.0, h.1, h.2, h.3, h.4, λ piece. h.5 (piece_to h.0 h.1 h.2 h.3 piece))) o

  pub hold_lawful : HoldBelow (listed_snapshot xs ys zs rules) plan 7 → IsFirst (IsUnlawful ys zs plan) None → HoldBelow (listed_snapshot xs ys zs rules) plan 8
  hold_lawful before lawful = hold_more (listed_snapshot xs ys zs rules) plan 7 PiecesLawful refl before (first_lawful None lawful)

  once_to : (k : ℕ) → NotEachOnce ys zs plan k → Wrong (listed_snapshot xs ys zs rules) plan PiecesComplete k
  once_to k (inl again) = inl again
  once_to k (inr h) = inr (h.0, h.2.0, h.2.1, h.2.2, h.1, piece_to h.0 h.2.0 h.2.1 h.2.2 h.2.3, h.2.4)

  once_from : (k : ℕ) → Wrong (listed_snapshot xs ys zs rules) plan PiecesComplete k → NotEachOnce ys zs plan k
  once_from k (inl again) = inl again
  once_from k (inr h) = inr (h.0, h.4, (h.1, h.2, h.3, piece_from h.0 h.1 h.2 h.3 h.5, h.6))

  pub first_once : (o : Option ℕ) → IsFirst (NotEachOnce ys zs plan) o → IsFirst (Wrong (listed_snapshot xs ys zs rules) plan PiecesComplete) o
  first_once o = IsFirst-same (NotEachOnce ys zs plan) (Wrong (listed_snapshot xs ys zs rules) plan PiecesComplete) once_to once_from o

  pub hold_pieces : HoldBelow (listed_snapshot xs ys zs rules) plan 8 → IsFirst (NotEachOnce ys zs plan) None → HoldBelow (listed_snapshot xs ys zs rules) plan 9
  hold_pieces before once = hold_more (listed_snapshot xs ys zs rules) plan 8 PiecesComplete refl before (first_once None once)

-- what the two rules about reasons tell
pub need_told : (s : Snapshot) (plan : Plan) (found : NeedBroken) → HoldBelow s plan 3 → IsNeedAnswer s plan.entries (Some found) → Broken s plan found.rule found.place
need_told s plan found before (inl h) = subst (λ r. Broken s plan r found.place) (sym h.0) (broken_here s plan ReasonsHold found.place before h.1)
need_told s plan found before (inr h) = subst (λ r. Broken s plan r found.place) (sym h.0) (broken_here s plan EntriesComplete found.place (hold_more s plan 3 ReasonsHold refl before h.1) h.2)

pub need_holds : (s : Snapshot) (plan : Plan) → HoldBelow s plan 3 → IsNeedAnswer s plan.entries None → HoldBelow s plan 5
need_holds s plan before h = hold_more s plan 4 EntriesComplete refl (hold_more s plan 3 ReasonsHold refl before h.0) h.1

-- fewer rules hold where more do
pub hold_fewer : (s : Snapshot) (plan : Plan) (m n : ℕ) → m ≤ n → HoldBelow s plan n → HoldBelow s plan m
hold_fewer s plan m n le before rule place less = before rule place (omega arith)
