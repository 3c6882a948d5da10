use Rattle.std.proofs.Common.{sym, ◌∙◌, subst}
use Rattle.ts_model.specs.Plans.{KindIs}
use Rattle.ts_model.specs.Runs.{Run, IsPending}
use Rattle.ts_model.specs.declared.plan.Kind.TheVariants.{Piece}
use Rattle.ts_model.specs.declared.plan.Plan.{Plan}
use Rattle.ts_model.specs.declared.step.Work.TheVariants.{Staged}
use Rattle.ts_board.specs.Calls.{mine}
use Rattle.ts_board.specs.Keys.{terms_of_key}
use Rattle.ts_board.proofs.Acting.{piece_may}
use Rattle.cases.proofs.Acts.{acted_by}
use Rattle.cases.proofs.board.desk.Desk.stage.Goals as goal

pub stage-requires-clause-site : goal.stage-requires-clause-site
stage-requires-clause-site g c κs within =
    let d = c.args.self.now in let f = c.requires.file in
    c.in_ok-held.ensures.site.1 f.entry 0 1 f.path (subst (λ (z : Plan). KindIs z c.args.b (Piece f.entry 0 1 f.path)) (sym d.plan) f.piece)

pub done-requires-clause-acted : goal.done-requires-clause-acted
done-requires-clause-acted g c κs within =
    let d = c.args.self.now in let f = c.requires.file in let b = c.args.b in
    let content = g.S.Site.content in let t = terms_of_key content d.board.now.table.shared.key in
    let own = mine c.look-next.new.pass in let now = c.stage.new.self in let won = c.in_ok-held.ensures.won in
    let kind = subst (λ (z : Plan). KindIs z b (Piece f.entry 0 1 f.path)) (sym d.plan) f.piece in
    let pending : IsPending own b = subst (λ (r : Run). IsPending r b) (sym (c.look-next.ensures.sees.1 ∙ c.look-claimed.ensures.sees.1)) won.2 in
    acted_by content t own now b (Staged c.args.piece.value.bytes) c.stage.ensures.acted (c.stage.ensures.action ∙ won.0) c.stage.ensures.work
    (piece_may t own b f.entry 0 1 f.path c.args.piece.value.bytes pending kind c.requires.one)
    (c.stage.ensures.told t c.in_ok-held.ensures.fresh.2)
