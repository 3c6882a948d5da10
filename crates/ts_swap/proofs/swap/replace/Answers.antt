use Rattle.ts_swap.proofs.Stops.{moved_in}
use Rattle.ts_swap.proofs.swap.replace.Goals as goal

pub returns-clause-stops : goal.returns-clause-stops
returns-clause-stops g c = moved_in c.args.tree.now _ _ _ _ _ c.requires.old c.in_ok-write_new.ensures.ok c.write_new.ensures.stops c.move_in.ensures.stops
