use Rattle.std.proofs.Common.{sym, ap, ◌∙◌, subst}
use Rattle.ts_model.specs.Plans.{KindIs}
use Rattle.ts_model.specs.Runs.{Run, IsPending}
use Rattle.ts_model.specs.declared.plan.Kind.TheVariants.{Mark}
use Rattle.ts_model.specs.declared.plan.Plan.{Plan}
use Rattle.ts_model.specs.declared.step.Work.TheVariants.{Marked}
use Rattle.ts_board.specs.Calls.{mine}
use Rattle.ts_board.specs.Keys.{terms_of_key}
use Rattle.ts_board.specs.Terms.{work_in}
use Rattle.ts_board.proofs.Acting.{mark_may}
use Rattle.cases.proofs.Acts.{acted_by, told_same}
use Rattle.cases.proofs.board.desk.Desk.mark.Goals as goal

pub done-requires-clause-acted : goal.done-requires-clause-acted
done-requires-clause-acted g c κs within =
    let d = c.args.self.now in let i = c.args.i in let content = g.S.Site.content in let t = terms_of_key content d.board.now.table.shared.key in
    let own = mine c.look-claimed.new.pass in let h = c.in_ok-held.held in let now = c.mark.new.self in
    let won = c.in_ok-held.ensures.won in let fresh = c.in_ok-held.ensures.fresh in let mark = c.requires.mark in
    let pending : IsPending own i = subst (λ (r : Run). IsPending r i) (sym c.look-claimed.ensures.sees.1) won.2 in
    acted_by content t own now i Marked c.mark.ensures.acted (c.mark.ensures.action ∙ won.0) (ap work_in c.mark.ensures.slot ∙ fresh.1)
    (mark_may t own i mark.0 pending (subst (λ (z : Plan). KindIs z i (Mark mark.0)) (sym d.plan) mark.1))
    (told_same content t h.action now.action h.slot now.slot c.mark.ensures.action c.mark.ensures.slot fresh.2)
