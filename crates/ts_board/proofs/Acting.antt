-- When an act may follow its claim, for each kind of action: what `done` asks of its caller.
use Rattle.std.proofs.Common.{◌≡◌, ℕ, List, length, subst}
use Rattle.ts_model.specs.Plans.{KindIs}
use Rattle.ts_model.specs.Runs.{Run, Has, IsPending, IsPieceOf, WordsAllow, takes}
use Rattle.ts_model.specs.declared.plan.Kind.{Kind}
use Rattle.ts_model.specs.declared.plan.Kind.TheVariants.{Piece, Commit, Mark}
use Rattle.ts_model.specs.declared.plan.Plan.{Plan}
use Rattle.ts_model.specs.declared.step.Step.TheVariants.{Act}
use Rattle.ts_model.specs.declared.step.Work.{Work}
use Rattle.ts_model.specs.declared.step.Work.TheVariants.{Staged, Marked}
use Rattle.ts_name.specs.Paths.{Path}
use Rattle.ts_laws.proofs.Steps.{same_kind}
use Rattle.ts_board.specs.declared.law.Terms.{Terms}
use Rattle.ts_board.specs.Terms.{Suits}

-- a commit's kind is no other
abbrev Commits : Kind → Type 0
Commits (Commit e) = Unit {0}
Commits (Piece e offset size p) = ⊥
Commits (Mark e) = ⊥

no_pieces : (plan : Plan) (i k : ℕ) (kind : Kind) → KindIs plan i kind → ¬ Commits kind → ¬ IsPieceOf plan i k
no_pieces plan i k kind is none piece = none (subst Commits (same_kind plan i (Commit piece.entry) kind piece.commit is) tt)

-- a mark
pub mark_may : (t : Terms) (own : Run) (i e : ℕ) → IsPending own i → KindIs t.plan i (Mark e) → WordsAllow t.plan own (Act i Marked) × Suits t (Act i Marked)
mark_may t own i e pending kind = ((pending, λ k piece. absurd (no_pieces t.plan i k (Mark e) kind (λ h. h) piece)), λ s is. (Mark e, kind, tt))

-- a piece that has staged as many bytes as it has
pub piece_may : (t : Terms) (own : Run) (i e offset size : ℕ) (p : Path) (bytes : List ℕ) → IsPending own i → KindIs t.plan i (Piece e offset size p) → length bytes ≡ size
    → WordsAllow t.plan own (Act i (Staged bytes)) × Suits t (Act i (Staged bytes))
piece_may t own i e offset size p bytes pending kind long =
    ((pending, λ k piece. absurd (no_pieces t.plan i k (Piece e offset size p) kind (λ h. h) piece)), λ s is. (Piece e offset size p, kind, long))

-- a commit that has taken all its pieces. `Held::commit` says that what it has put in place suits
pub commit_may : (t : Terms) (own : Run) (c : ℕ) (work : Work) → IsPending own c → ((k : ℕ) → IsPieceOf t.plan c k → Has own (takes k)) → WordsAllow t.plan own (Act c work)
commit_may t own c work pending all = (pending, all)
