-- Commits that lack a piece.
use Rattle.std.proofs.Common.{◌≡◌, ◌↔◌, ℕ, ◌<◌, Bool, List, [], Contains, IsTrue, MatchOption, Option, Some, None, slice_get, sym, refl, ◌∙◌, subst, arith}
use Rattle.ts_model.specs.Plans.{ActionIs, Waits}
use Rattle.ts_model.specs.declared.plan.Action.{Action}
use Rattle.ts_model.specs.declared.plan.Kind.TheVariants.{Commit}
use Rattle.ts_model.specs.declared.plan.Plan.{Plan}
use Rattle.ts_check.specs.Pieces.{AreAllPieces, IsPieceFor}
use Rattle.ts_check.specs.Waiting.{LacksPiece}
use Rattle.ts_check.proofs.Scans.{same_kind}
use Rattle.ts_name.proofs.Basics.{element_at}

one_commit : (a b : ℕ) → Commit a ≡ Commit b → a ≡ b
one_commit a b e = cc

-- the list of an entry names each of its pieces
named : (plan : Plan) (lists : List (List ℕ)) (are : AreAllPieces plan lists) (e k : ℕ) (found : List ℕ) → MatchOption (slice_get lists e) (found ≡ []) (λ list. found ≡ list) → IsPieceFor plan e k → Contains found k
named plan lists are e k found is piece =
    let within = are.within e k piece in
    let size = are.size in
    let there = element_at lists e (omega arith) in
    let same : found ≡ there.0 = subst (λ (o : Option (List ℕ)). MatchOption o (found ≡ []) (λ list. found ≡ list)) there.1 is in
    subst (λ z. Contains z k) (sym same) (((are.each e there.0 there.1).each k).1 piece)

-- and no other action
is_piece : (plan : Plan) (lists : List (List ℕ)) (are : AreAllPieces plan lists) (e k : ℕ) (found : List ℕ) → MatchOption (slice_get lists e) (found ≡ []) (λ list. found ≡ list) → Contains found k → IsPieceFor plan e k
is_piece plan lists are e k found is among = go (slice_get lists e) refl is
  where
    go : (o : Option (List ℕ)) → slice_get lists e ≡ o → MatchOption o (found ≡ []) (λ list. found ≡ list) → IsPieceFor plan e k
    go None at none = absurd (let h = subst (λ z. Contains z k) none among in let low : h.0 < 0 = h.1 in omega arith)
    go (Some list) at same = ((are.each e list at).each k).0 (subst (λ z. Contains z k) same among)

-- an action that is a commit of this entry lacks a piece exactly where it doesn't wait for some action that the entry's list names
pub lacks_listed : (plan : Plan) (lists : List (List ℕ)) (are : AreAllPieces plan lists) (i e : ℕ) (action : Action) (found : List ℕ) (b : Bool) → ActionIs plan i action → action.kind ≡ Commit e
    → MatchOption (slice_get lists e) (found ≡ []) (λ list. found ≡ list) → (IsTrue b ↔ ((k : ℕ) × Contains found k × (¬ Waits plan i k))) → (IsTrue b ↔ LacksPiece plan i)
lacks_listed plan lists are i e action found b is kind list says = (
  λ yes_b.
      let k = says.0 yes_b in
      let piece = is_piece plan lists are e k.0 found list k.1 in
      (e, k.0, piece.0, piece.1, piece.2, (action, is, kind), piece.3, k.2),
  λ lacks.
      let same : e ≡ lacks.0 = one_commit e lacks.0 (sym kind ∙ same_kind plan i action (Commit lacks.0) is lacks.5) in
      let piece : IsPieceFor plan e lacks.1 = subst (λ z. IsPieceFor plan z lacks.1) (sym same) (lacks.2, lacks.3, lacks.4, lacks.6) in
      says.1 (lacks.1, named plan lists are e lacks.1 found list piece, lacks.7),
)
