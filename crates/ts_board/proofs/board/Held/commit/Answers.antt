use Rattle.ts_board.proofs.Fitting.{suits_ok}
use Rattle.ts_board.proofs.board.Held.commit.Goals as goal

pub returns-clause-suits : goal.returns-clause-suits
returns-clause-suits g c =
    let begun = c.requires.begun in
    suits_ok g.S.Site.content c.put.result c.args.checked.now c.args.self.now.action c.put.new.self.action c.args.self.now.slot c.put.new.self.slot c.args.staged begun.0 begun.1 begun.2 c.put.ensures.action _ c.put.ensures.put
