use Rattle.std.proofs.Common.{sym, ◌∙◌}
use Rattle.cases.proofs.Working.{worked_commits, worked_inside, worked_task}
use Rattle.cases.proofs.board.flow.worked_case.Goals as goal

pub opened-requires-after_bounds : goal.opened-requires-after_bounds
opened-requires-after_bounds g c κs within = let w = c.requires.actions in c.requires.one ∙ sym (worked_commits c.args.checked.now.plan w.0 w.1)

pub copied-pass-requires-clause-file : goal.copied-pass-requires-clause-file
copied-pass-requires-clause-file g c κs within = let w = c.requires.actions in worked_task c.args.checked.now.plan w.0 w.1

pub ended-requires-clause-inside : goal.ended-requires-clause-inside
ended-requires-clause-inside g c κs within = let w = c.requires.actions in worked_inside c.args.checked.now.plan w.0 w.1
