use Rattle.ts_check.proofs.Complete.{first_lacking, never_lacking}
use Rattle.ts_check.proofs.pieces.each_once.Goals as goal

pub returns-in-Some-clause-wrong : goal.returns-in-Some-clause-wrong
returns-in-Some-clause-wrong g c = rw c.as_slice.ensures (
    let staged = rw c.in-Ok.is at c.requires.staged in
    first_lacking c.args.first.now c.args.second.now c.args.plan.now c.in-Some.e staged.0.1 c.in-Some.ensures.0 c.in-Some.ensures.1)

pub returns-in-None-clause-staged : goal.returns-in-None-clause-staged
returns-in-None-clause-staged g c =
    let staged = rw c.in-Ok.is at c.requires.staged in
    ((staged.0.0, never_lacking c.args.first.now c.args.second.now c.args.plan.now staged.0.1 c.in-None.ensures), staged.1, staged.2)
