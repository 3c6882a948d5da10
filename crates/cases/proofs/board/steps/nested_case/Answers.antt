use Rattle.std.proofs.Common.{◌∙◌, sym, arith}
use Rattle.cases.proofs.Working.{nested_commits, nested_directory, nested_first, nested_second}
use Rattle.cases.proofs.board.steps.nested_case.Goals as goal

pub opened-requires-after_bounds : goal.opened-requires-after_bounds
opened-requires-after_bounds g c κs within = let n = c.requires.actions in c.requires.two ∙ sym (nested_commits c.args.checked.now.plan n.0 n.1 n.2)

pub step-requires-clause-task : goal.step-requires-clause-task
step-requires-clause-task g c κs within = let n = c.requires.actions in nested_directory c.args.checked.now.plan n.0 n.1 n.2

pub file_steps-requires-clause-file : goal.file_steps-requires-clause-file
file_steps-requires-clause-file g c κs within = let n = c.requires.actions in nested_first c.args.checked.now.plan n.0 n.1 n.2

pub file_steps-requires-2-clause-file : goal.file_steps-requires-2-clause-file
file_steps-requires-2-clause-file g c κs within = let n = c.requires.actions in nested_second c.args.checked.now.plan n.0 n.1 n.2

pub ended-requires-clause-inside : goal.ended-requires-clause-inside
ended-requires-clause-inside g c κs within =
    let n = c.requires.actions in let inside = (nested_directory c.args.checked.now.plan n.0 n.1 n.2).1 in omega arith
