use Rattle.ts_swap.proofs.Counting.{still_grown}
use Rattle.ts_swap.proofs.Outcomes.{kept_others}
use Rattle.ts_swap.proofs.Stops.{written}
use Rattle.ts_swap.specs.declared.places.Spot.TheVariants.{Target}
use Rattle.ts_swap.proofs.swap.write_new.Goals as goal

pub returns-in-Err-clause-err : goal.returns-in-Err-clause-err
returns-in-Err-clause-err g c = λ _. kept_others c.args.tree.now _ _ _ c.in-Err.ensures.left c.clear_new.ensures.kept

pub returns-in-Err-clause-stops : goal.returns-in-Err-clause-stops
returns-in-Err-clause-stops g c = written _ _ _ _ _ _ c.in-Err.ensures.left c.write.ensures.stops c.clear_new.ensures.stops

pub returns-in-Err-clause-counted : goal.returns-in-Err-clause-counted
returns-in-Err-clause-counted g c = still_grown _ _ _ c.in-Err.ensures.counted c.clear_new.ensures.counted

pub returns-in-Err-clause-looks : goal.returns-in-Err-clause-looks
returns-in-Err-clause-looks g c = λ hides. c.write.ensures.looks Target (c.clear_new.ensures.looks hides)
