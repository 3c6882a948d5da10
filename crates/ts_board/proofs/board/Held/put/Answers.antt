use Rattle.std.proofs.Common.{◌∙◌, ap, sym}
use Rattle.ts_board.specs.Terms.{site_in}
use Rattle.ts_board.proofs.Fitting.{refuses_on}
use Rattle.ts_board.proofs.board.Held.put.Goals as goal

pub returns-in-Err-clause-misfit : goal.returns-in-Err-clause-misfit
returns-in-Err-clause-misfit g c =
    let there = sym (ap site_in c.replace-slot.ensures.value) ∙ sym c.into_site.ensures ∙ c.in-Some.is in
    refuses_on _ (Unit {0}) g.S.Site.content c.args.self.now.slot c.in-Some.site there c.args.staged c.in-Err.fault c.in-Err.ensures.misfit
