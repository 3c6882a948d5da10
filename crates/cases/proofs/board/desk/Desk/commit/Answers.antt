use Rattle.std.proofs.Common.{◌≡◌, ℕ, ◌+◌, sym, ap, ◌∙◌, subst}
use Rattle.ts_model.specs.Plans.{KindIs}
use Rattle.ts_model.specs.Runs.{Run, Has, IsPieceOf, takes}
use Rattle.ts_model.specs.declared.plan.Kind.TheVariants.{Commit}
use Rattle.ts_model.specs.declared.plan.Plan.{Plan}
use Rattle.ts_board.specs.declared.board.Held.{Held}
use Rattle.ts_board.specs.Calls.{mine}
use Rattle.ts_board.specs.Terms.{is_place}
use Rattle.cases.proofs.Steps.{has_taken}
use Rattle.cases.proofs.board.desk.Desk.commit.Goals as goal

pub take-piece-requires-clause-piece : goal.take-piece-requires-clause-piece
take-piece-requires-clause-piece g c κs within =
    let d = c.args.self.now in let f = c.requires.file in let b = c.args.b in
    let piece : IsPieceOf d.checked.now.plan (b + 1) b = record { entry = f.entry; offset = 0; size = 1; path = f.path; commit = f.commit; piece = f.piece } in
    subst (λ (i : ℕ). IsPieceOf d.board.now.table.shared.key.plan.value i b) (sym c.in_ok-held.ensures.won.0) (subst (λ (z : Plan). IsPieceOf z (b + 1) b) (sym d.plan) piece)

pub put-ended-requires-clause-taken : goal.put-ended-requires-clause-taken
put-ended-requires-clause-taken g c κs within k piece =
    let b = c.args.b in let same = ap (λ (h : Held g.row.S.Denot). h.action) c.take-piece.ensures.held ∙ c.in_ok-held.ensures.won.0 in
    let is : k ≡ b = c.requires.file.only k (subst (λ (n : ℕ). IsPieceOf c.args.self.now.checked.now.plan n k) same piece) in
    subst (λ (n : ℕ). Has (mine c.look-taken.new.pass) (takes n)) (sym is)
    (subst (λ (r : Run). Has r (takes b)) (sym (c.look-taken.ensures.sees.1 ∙ c.take-piece.ensures.taken.2)) (has_taken (mine c.look-next.new.pass) c.in_ok-held.held.action b))

pub put-ended-requires-clause-place : goal.put-ended-requires-clause-place
put-ended-requires-clause-place g c κs within =
    let d = c.args.self.now in let f = c.requires.file in
    ap (λ (h : Held g.row.S.Denot). is_place h.slot) c.take-piece.ensures.held ∙ c.in_ok-held.ensures.site.0 f.entry (subst (λ (z : Plan). KindIs z (c.args.b + 1) (Commit f.entry)) (sym d.plan) f.commit)

pub put-ended-requires-clause-commit : goal.put-ended-requires-clause-commit
put-ended-requires-clause-commit g c κs within =
    let f = c.requires.file in let same = ap (λ (h : Held g.row.S.Denot). h.action) c.take-piece.ensures.held ∙ c.in_ok-held.ensures.won.0 in
    (f.entry, subst (λ (n : ℕ). KindIs c.args.self.now.checked.now.plan n (Commit f.entry)) (sym same) f.commit)
