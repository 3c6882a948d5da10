use Rattle.ts_swap.proofs.Stopped.{settles, goes_on_in_swap}
use Rattle.ts_swap.proofs.swap.recover_stopped.Goals as goal

pub returns-clause-settled : goal.returns-clause-settled
returns-clause-settled g c = λ ok. settles c.args.tree.now _ _ _ _ _ c.requires.old c.replace.ensures.stops (λ original. c.recover.ensures.settled ok original c.args.tree.now)

pub returns-clause-again : goal.returns-clause-again
returns-clause-again g c = goes_on_in_swap c.args.tree.now _ _ _ _ _ _ c.requires.old c.replace.ensures.stops (λ original. c.recover.ensures.stops original c.args.tree.now)
