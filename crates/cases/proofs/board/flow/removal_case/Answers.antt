use Rattle.std.proofs.Common.{arith, sym, ◌∙◌}
use Rattle.cases.proofs.Working.{removal_commits, removal_inside, removal_mark, removal_task}
use Rattle.cases.proofs.board.flow.removal_case.Goals as goal

pub opened-requires-after_bounds : goal.opened-requires-after_bounds
opened-requires-after_bounds g c κs within = c.requires.one ∙ sym (removal_commits c.args.checked.now.plan c.requires.actions)

pub raced-pass-requires-clause-task : goal.raced-pass-requires-clause-task
raced-pass-requires-clause-task g c κs within = removal_task c.args.checked.now.plan c.requires.actions

pub mark-made-requires-clause-action : goal.mark-made-requires-clause-action
mark-made-requires-clause-action g c κs within = removal_inside c.args.checked.now.plan c.requires.actions

pub mark-made-requires-clause-mark : goal.mark-made-requires-clause-mark
mark-made-requires-clause-mark g c κs within = (0, removal_mark c.args.checked.now.plan c.requires.actions)

pub ended-requires-clause-inside : goal.ended-requires-clause-inside
ended-requires-clause-inside g c κs within = let long = removal_inside c.args.checked.now.plan c.requires.actions in omega (arith, long)
