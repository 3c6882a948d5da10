use Rattle.std.proofs.Common.{◌≡◌, ℕ, refl, sym, subst}
use Rattle.ts_model.specs.Runs.{IsPending, IsPieceOf}
use Rattle.ts_model.specs.declared.plan.Plan.{Plan}
use Rattle.ts_model.specs.declared.step.Step.TheVariants.{Act}
use Rattle.ts_board.specs.Calls.{mine, work_of}
use Rattle.ts_board.specs.Keys.{terms_of_key}
use Rattle.ts_board.specs.Terms.{Suits}
use Rattle.ts_board.proofs.Acting.{commit_may}
use Rattle.cases.proofs.Acts.{acted_by}
use Rattle.cases.proofs.board.desk.Desk.put.Goals as goal

pub done-requires-clause-acted : goal.done-requires-clause-acted
done-requires-clause-acted g c κs within =
    let d = c.args.self.now in let content = g.S.Site.content in let t = terms_of_key content d.board.now.table.shared.key in
    let own = mine c.args.pass.now in let now = c.commit.new.self in let i = c.args.held.action in
    let action : now.action ≡ i = c.commit.ensures.action in
    let suits : Suits t (Act now.action (work_of now)) = c.in-Ok.ensures.suits t (d.plan, d.first, d.second) in
    acted_by content t own now i (work_of now) c.in-Ok.ensures.acted action refl (
      commit_may t own i (work_of now) c.requires.held (λ k piece. c.requires.taken k (subst (λ (z : Plan). IsPieceOf z i k) d.plan piece)),
      subst (λ (n : ℕ). Suits t (Act n (work_of now))) action suits,
    )
    (c.commit.ensures.told t c.requires.fresh.2)

pub fail-requires-clause-held : goal.fail-requires-clause-held
fail-requires-clause-held g c κs within = subst (λ (n : ℕ). IsPending (mine c.args.pass.now) n) (sym c.commit.ensures.action) c.requires.held

pub fail-requires-clause-fresh : goal.fail-requires-clause-fresh
fail-requires-clause-fresh g c κs within =
    let content = g.S.Site.content in let t = terms_of_key content c.args.self.now.board.now.table.shared.key in
    (c.in-Err.ensures.err.0, c.in-Err.ensures.err.1, c.commit.ensures.told t c.requires.fresh.2)
