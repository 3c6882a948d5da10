-- The plans' actions, and what they wait for.
use Rattle.std.proofs.Common.{◌≡◌, ◌⊎◌, ℕ, ◌<◌, zero, suc, List, [], ◌∷◌, length, Some, slice_get, sym, refl, ap, ◌∙◌, subst, inl, inr, arith}
use Rattle.std.specs.Prelude.{Contains}
use Rattle.std.proofs.lemmas.Option.{none-some, same_Some}
use Rattle.ts_name.specs.Paths.{Path}
use Rattle.ts_model.specs.Plans.{KindIs, Waits}
use Rattle.ts_model.specs.Runs.{IsPieceOf}
use Rattle.ts_model.specs.declared.plan.Action.{Action}
use Rattle.ts_model.specs.declared.plan.Kind.{Kind}
use Rattle.ts_model.specs.declared.plan.Kind.TheVariants.{Piece, Commit, Mark}
use Rattle.ts_model.specs.declared.plan.Plan.{Plan}
use Rattle.ts_laws.proofs.Steps.{same_kind}
use Rattle.ts_board.specs.Terms.{commit_count}
use Rattle.cases.specs.Worked.{HasFile, HasRemoval, IsTask, nested, removal, worked}
use Rattle.cases.specs.declared.board.task.Task.TheVariants as task

kind_at : (plan : Plan) (actions : List Action) → plan.actions ≡ actions → (i : ℕ) (a : Action) → slice_get actions i ≡ Some a → KindIs plan i a.kind
kind_at plan actions h i a is = (a, ap (λ (l : List Action). slice_get l i) h ∙ is, refl)

waits_at : (plan : Plan) (actions : List Action) → plan.actions ≡ actions → (i : ℕ) (a : Action) → slice_get actions i ≡ Some a → (j : ℕ) → Contains a.preds j → Waits plan i j
waits_at plan actions h i a is j has = (a, ap (λ (l : List Action). slice_get l i) h ∙ is, has)

-- the entry of a kind
entry_in : Kind → ℕ
entry_in (Piece e offset size p) = e
entry_in (Commit e) = e
entry_in (Mark e) = e

IsPiece : Kind → Type 0
IsPiece (Piece e offset size p) = Unit {0}
IsPiece (Commit e) = ⊥
IsPiece (Mark e) = ⊥

-- a piece of commit c with entry e stands where an action of this list is a piece of e
found : (plan : Plan) (actions : List Action) → plan.actions ≡ actions → (c e k : ℕ) → KindIs plan c (Commit e) → IsPieceOf plan c k → (action : Action) × (slice_get actions k ≡ Some action) × IsPiece action.kind × (entry_in action.kind ≡ e)
unfolding IsPiece entry_in
found plan actions h c e k commit piece =
    let same : Commit piece.entry ≡ Commit e = same_kind plan c (Commit piece.entry) (Commit e) piece.commit commit in
    let kind = piece.piece.2 in (
      piece.piece.0,
      sym (ap (λ (l : List Action). slice_get l k) h) ∙ piece.piece.1,
      subst IsPiece (sym kind) tt,
      ap entry_in kind ∙ ap entry_in same,
    )

at_worked : (p : Path) (k : ℕ) (action : Action) → slice_get (worked p) k ≡ Some action → IsPiece action.kind → k ≡ 0
unfolding worked IsPiece
at_worked p zero action is piece = refl
at_worked p (suc zero) action is piece = absurd (subst (λ (a : Action). IsPiece a.kind) (sym (same_Some (record { kind = Commit 0; preds = 0 ∷ [] }) action is)) piece)
at_worked p (suc (suc zero)) action is piece = absurd (subst (λ (a : Action). IsPiece a.kind) (sym (same_Some (record { kind = Mark 0; preds = 1 ∷ [] }) action is)) piece)
at_worked p (suc (suc (suc k))) action is piece = absurd (none-some action is)

at_removal : (k : ℕ) (action : Action) → slice_get removal k ≡ Some action → IsPiece action.kind → ⊥
unfolding removal IsPiece
at_removal zero action is piece = subst (λ (a : Action). IsPiece a.kind) (sym (same_Some (record { kind = Commit 0; preds = [] }) action is)) piece
at_removal (suc zero) action is piece = subst (λ (a : Action). IsPiece a.kind) (sym (same_Some (record { kind = Mark 0; preds = 0 ∷ [] }) action is)) piece
at_removal (suc (suc k)) action is piece = none-some action is

-- the two pieces of a new directory's files
IsNestedPiece : ℕ → ℕ → Type 0
IsNestedPiece k e = ((k ≡ 1) × (e ≡ 1)) ⊎ ((k ≡ 4) × (e ≡ 2))

at_nested : (p q : Path) (k : ℕ) (action : Action) → slice_get (nested p q) k ≡ Some action → IsPiece action.kind → IsNestedPiece k (entry_in action.kind)
unfolding nested IsPiece IsNestedPiece entry_in
at_nested p q zero action is piece = absurd (subst (λ (a : Action). IsPiece a.kind) (sym (same_Some (record { kind = Mark 0; preds = [] }) action is)) piece)
at_nested p q (suc zero) action is piece = inl (refl, sym (ap (λ (a : Action). entry_in a.kind) (same_Some (record { kind = Piece 1 0 1 p; preds = [] }) action is)))
at_nested p q (suc (suc zero)) action is piece = absurd (subst (λ (a : Action). IsPiece a.kind) (sym (same_Some (record { kind = Commit 1; preds = 1 ∷ [] }) action is)) piece)
at_nested p q (suc (suc (suc zero))) action is piece = absurd (subst (λ (a : Action). IsPiece a.kind) (sym (same_Some (record { kind = Mark 1; preds = 0 ∷ 2 ∷ [] }) action is)) piece)
at_nested p q (suc (suc (suc (suc zero)))) action is piece = inr (refl, sym (ap (λ (a : Action). entry_in a.kind) (same_Some (record { kind = Piece 2 0 1 q; preds = [] }) action is)))
at_nested p q (suc (suc (suc (suc (suc zero))))) action is piece = absurd (subst (λ (a : Action). IsPiece a.kind) (sym (same_Some (record { kind = Commit 2; preds = 4 ∷ [] }) action is)) piece)
at_nested p q (suc (suc (suc (suc (suc (suc zero)))))) action is piece = absurd (subst (λ (a : Action). IsPiece a.kind) (sym (same_Some (record { kind = Mark 2; preds = 0 ∷ 5 ∷ [] }) action is)) piece)
at_nested p q (suc (suc (suc (suc (suc (suc (suc k))))))) action is piece = absurd (none-some action is)

module _ (plan : Plan) (p : Path) (h : plan.actions ≡ worked p) where
  worked_commit : KindIs plan 1 (Commit 0)
  unfolding worked
  worked_commit = kind_at plan (worked p) h 1 (record { kind = Commit 0; preds = 0 ∷ [] }) refl

  worked_file : HasFile plan 0
  unfolding worked
  worked_file = record {
    entry = 0;
    path = p;
    piece = kind_at plan (worked p) h 0 (record { kind = Piece 0 0 1 p; preds = [] }) refl;
    commit = worked_commit;
    mark = kind_at plan (worked p) h 2 (record { kind = Mark 0; preds = 1 ∷ [] }) refl;
    only = λ k piece. let f = found plan (worked p) h 1 0 k worked_commit piece in at_worked p k f.0 f.1 f.2;
    commit_waits = waits_at plan (worked p) h 1 (record { kind = Commit 0; preds = 0 ∷ [] }) refl 0 (0, omega arith, refl);
    mark_waits = waits_at plan (worked p) h 2 (record { kind = Mark 0; preds = 1 ∷ [] }) refl 1 (0, omega arith, refl);
  }

  pub worked_task : IsTask plan (task.Piece 0)
  unfolding worked
  worked_task = (worked_file, subst (λ (l : List Action). 2 < length l) (sym h) (omega arith), omega arith)

  pub worked_inside : 1 < length plan.actions
  unfolding worked
  worked_inside = subst (λ (l : List Action). 1 < length l) (sym h) (omega arith)

  pub worked_commits : commit_count plan.actions ≡ 1
  unfolding worked
  worked_commits = ap commit_count h

module _ (plan : Plan) (h : plan.actions ≡ removal) where
  removal_commit : KindIs plan 0 (Commit 0)
  unfolding removal
  removal_commit = kind_at plan removal h 0 (record { kind = Commit 0; preds = [] }) refl

  pub removal_mark : KindIs plan 1 (Mark 0)
  unfolding removal
  removal_mark = kind_at plan removal h 1 (record { kind = Mark 0; preds = 0 ∷ [] }) refl

  has_removal : HasRemoval plan
  unfolding removal
  has_removal = record {
    commit = removal_commit;
    none = λ k piece. let f = found plan removal h 0 0 k removal_commit piece in at_removal k f.0 f.1 f.2;
    mark_waits = waits_at plan removal h 1 (record { kind = Mark 0; preds = 0 ∷ [] }) refl 0 (0, omega arith, refl);
  }

  pub removal_inside : 1 < length plan.actions
  unfolding removal
  removal_inside = subst (λ (l : List Action). 1 < length l) (sym h) (omega arith)

  pub removal_task : IsTask plan task.Removal
  removal_task = (has_removal, removal_inside)

  pub removal_commits : commit_count plan.actions ≡ 1
  unfolding removal
  removal_commits = ap commit_count h

module _ (plan : Plan) (p q : Path) (h : plan.actions ≡ nested p q) where
  nested_first_commit : KindIs plan 2 (Commit 1)
  unfolding nested
  nested_first_commit = kind_at plan (nested p q) h 2 (record { kind = Commit 1; preds = 1 ∷ [] }) refl

  nested_second_commit : KindIs plan 5 (Commit 2)
  unfolding nested
  nested_second_commit = kind_at plan (nested p q) h 5 (record { kind = Commit 2; preds = 4 ∷ [] }) refl

  -- a file's commit has one piece
  one_piece : (c e k : ℕ) → KindIs plan c (Commit e) → IsPieceOf plan c k → (action : Action) × (entry_in action.kind ≡ e) × IsNestedPiece k (entry_in action.kind)
  one_piece c e k commit piece = let f = found plan (nested p q) h c e k commit piece in (f.0, f.3, at_nested p q k f.0 f.1 f.2)

  first_piece : (k : ℕ) → IsPieceOf plan 2 k → k ≡ 1
  unfolding IsNestedPiece
  first_piece k piece = let f = one_piece 2 1 k nested_first_commit piece in elim f.2 [ inl one ↦ one.0 | inr other ↦ absurd (omega (arith, f.1, other.1)) ]

  second_piece : (k : ℕ) → IsPieceOf plan 5 k → k ≡ 4
  unfolding IsNestedPiece
  second_piece k piece = let f = one_piece 5 2 k nested_second_commit piece in elim f.2 [ inl other ↦ absurd (omega (arith, f.1, other.1)) | inr one ↦ one.0 ]

  nested_inside : 6 < length plan.actions
  unfolding nested
  nested_inside = subst (λ (l : List Action). 6 < length l) (sym h) (omega arith)

  pub nested_directory : IsTask plan task.Directory
  unfolding nested
  nested_directory = (
    record {
      mark = (0, kind_at plan (nested p q) h 0 (record { kind = Mark 0; preds = [] }) refl);
      first_waits = waits_at plan (nested p q) h 3 (record { kind = Mark 1; preds = 0 ∷ 2 ∷ [] }) refl 0 (0, omega arith, refl);
      second_waits = waits_at plan (nested p q) h 6 (record { kind = Mark 2; preds = 0 ∷ 5 ∷ [] }) refl 0 (0, omega arith, refl);
    },
    nested_inside,
  )

  pub nested_first : IsTask plan (task.Piece 1)
  unfolding nested
  nested_first = (
    record {
      entry = 1;
      path = p;
      piece = kind_at plan (nested p q) h 1 (record { kind = Piece 1 0 1 p; preds = [] }) refl;
      commit = nested_first_commit;
      mark = kind_at plan (nested p q) h 3 (record { kind = Mark 1; preds = 0 ∷ 2 ∷ [] }) refl;
      only = first_piece;
      commit_waits = waits_at plan (nested p q) h 2 (record { kind = Commit 1; preds = 1 ∷ [] }) refl 1 (0, omega arith, refl);
      mark_waits = waits_at plan (nested p q) h 3 (record { kind = Mark 1; preds = 0 ∷ 2 ∷ [] }) refl 2 (1, omega arith, refl);
    },
    (let long = nested_inside in omega arith),
    omega arith,
  )

  pub nested_second : IsTask plan (task.Piece 4)
  unfolding nested
  nested_second = (
    record {
      entry = 2;
      path = q;
      piece = kind_at plan (nested p q) h 4 (record { kind = Piece 2 0 1 q; preds = [] }) refl;
      commit = nested_second_commit;
      mark = kind_at plan (nested p q) h 6 (record { kind = Mark 2; preds = 0 ∷ 5 ∷ [] }) refl;
      only = second_piece;
      commit_waits = waits_at plan (nested p q) h 5 (record { kind = Commit 2; preds = 4 ∷ [] }) refl 4 (0, omega arith, refl);
      mark_waits = waits_at plan (nested p q) h 6 (record { kind = Mark 2; preds = 0 ∷ 5 ∷ [] }) refl 5 (1, omega arith, refl);
    },
    (let long = nested_inside in omega arith),
    omega arith,
  )

  pub nested_commits : commit_count plan.actions ≡ 2
  unfolding nested
  nested_commits = ap commit_count h
