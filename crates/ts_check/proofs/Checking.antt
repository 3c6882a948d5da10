-- What a plan that was checked answers.
use Rattle.std.proofs.Common.{◌≡◌, ◌≢◌, ◌↔◌, ℕ, ◌<◌, ◌≤◌, List, [], length, Contains, Option, Some, None, IfNone, MatchOption, slice_get, sym, refl, ◌∙◌, subst, inl, arith}
use Rattle.std.proofs.lemmas.Option.{none-some, slice_get_within}
use Rattle.ts_name.specs.Paths.{Path}
use Rattle.ts_model.specs.Plans.{ActionIs, KindIs, Copies, IsCopied, Valid, Waits, AscendBelow}
use Rattle.ts_model.specs.Runs.{IsPieceOf}
use Rattle.ts_model.specs.Sync.{Snapshot}
use Rattle.ts_model.specs.declared.plan.Action.{Action}
use Rattle.ts_model.specs.declared.plan.Entry.{Entry}
use Rattle.ts_model.specs.declared.plan.Side.{Side}
use Rattle.ts_model.specs.declared.plan.Kind.TheVariants.{Piece, Commit}
use Rattle.ts_model.specs.declared.plan.Plan.{Plan}
use Rattle.ts_model.specs.declared.plan.PlanRule.TheVariants.{PredsAscend, OneCommit}
use Rattle.ts_check.proofs.Scans.{same_kind}
use Rattle.ts_check.proofs.Succeeding.{contains_none}
use Rattle.ts_check.proofs.Waits.{ascending_preds}
use Rattle.ts_check.specs.Pieces.{IsPieceFor}
use Rattle.ts_check.specs.Places.{IsIndex, no_action}
use Rattle.ts_check.specs.Waiting.{AreAllSuccessors}
use Rattle.ts_name.proofs.Basics.{element_at}

-- the entry of a commit is copied
pub commit_copies : (s : Snapshot) (plan : Plan) (c e : ℕ) → Valid s plan → KindIs plan c (Commit e) → ¬ (¬ IsCopied plan e)
commit_copies s plan c e valid commit not = valid OneCommit c (inl (e, commit, inl not))

pub copied_within : (plan : Plan) (e : ℕ) → (from : Side) → ((entry : Entry) × Copies plan e entry from) → e < length plan.entries
copied_within plan e from h = slice_get_within plan.entries e h.0 h.1.0

-- ---- predecessors

pub preds_ascend : (s : Snapshot) (plan : Plan) (i : ℕ) (action : Action) → Valid s plan → ActionIs plan i action → AscendBelow i action.preds
preds_ascend s plan i action valid is = ascending_preds plan (λ k bad. valid PredsAscend k bad) i action is

-- ---- successors

pub successors_found : (plan : Plan) (lists : List (List ℕ)) (i : ℕ) (found : List ℕ) → AreAllSuccessors plan lists → MatchOption (slice_get lists i) (found ≡ []) (λ list. found ≡ list) → ((j : ℕ) → Contains found j ↔ Waits plan j i) × AscendBelow (length plan.actions) found
successors_found plan lists i found are h = go (slice_get lists i) refl h
  where
    go : (o : Option (List ℕ)) → slice_get lists i ≡ o → MatchOption o (found ≡ []) (λ list. found ≡ list) → ((j : ℕ) → Contains found j ↔ Waits plan j i) × AscendBelow (length plan.actions) found
    go (Some list) at same =
        let here = are.each i list at in
        subst (λ (z : List ℕ). ((j : ℕ) → Contains z j ↔ Waits plan j i) × AscendBelow (length plan.actions) z) (sym same) (here.waiting, here.ascending)
    go None at same =
        subst (λ (z : List ℕ). ((j : ℕ) → Contains z j ↔ Waits plan j i) × AscendBelow (length plan.actions) z) (sym same) (
          λ j. (λ h. absurd (contains_none j h), λ waits. absurd (none_waits j waits)),
          tt,
        )
      where
        none_waits : (j : ℕ) → ¬ Waits plan j i
        none_waits j waits =
            let up = are.preds_within j i waits in
            let size = are.size in
            let there = element_at lists i (omega arith) in
            none-some there.0 (sym at ∙ there.1)

-- ---- the commit of a piece

same_piece : (a b c d e f : ℕ) (p q : Path) → Piece a b c p ≡ Piece d e f q → a ≡ d
same_piece a b c d e f p q h = cc

same_entry : (plan : Plan) (k e : ℕ) (c : ℕ) (piece : IsPieceFor plan e k) (h : IsPieceOf plan c k) → h.entry ≡ e
same_entry plan k e c piece h = same_piece h.entry h.offset h.size e piece.0 piece.1 h.path piece.2 (sym h.piece.2 ∙ same_kind plan k h.piece.0 (Piece e piece.0 piece.1 piece.2) h.piece.1 piece.3)

pub no_commit : (plan : Plan) (commits : List ℕ) (k e : ℕ) → IsIndex plan Commit (length plan.actions) commits → length plan.actions ≤ 1048576 → IsPieceFor plan e k → ((c : ℕ) → slice_get commits e ≡ Some c → c ≡ no_action) → (c : ℕ) → ¬ IsPieceOf plan c k
no_commit plan commits k e index few piece none c h =
    let within = slice_get_within plan.actions c h.commit.0 h.commit.1 in
    let at = index.complete e c within (subst (λ (z : ℕ). KindIs plan c (Commit z)) (same_entry plan k e c piece h) h.commit) in
    let is = none c at in
    omega arith

pub its_commit : (plan : Plan) (commits : List ℕ) (k e c : ℕ) → IsIndex plan Commit (length plan.actions) commits → IsPieceFor plan e k → slice_get commits e ≡ Some c → c ≢ no_action → IsPieceOf plan c k
its_commit plan commits k e c index piece at is = record { entry = e; offset = piece.0; size = piece.1; path = piece.2; commit = (index.found e c at is).1; piece = piece.3 }

-- what holds in any case holds where nothing is found
pub if_none : (o : Option ℕ) (P : Type 0) → P → IfNone o P
if_none None P h = h
if_none (Some i) P h = tt
