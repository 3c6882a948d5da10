use Rattle.ts_swap.proofs.Outcomes.{looks_at, by_sight}
use Rattle.ts_swap.proofs.Stops.{recovers}
use Rattle.ts_swap.proofs.swap.recover.Goals as goal

pub returns-clause-recovered : goal.returns-clause-recovered
returns-clause-recovered g c =
    let looks = looks_at c.in_ok-target.target c.in_ok-new.new c.in_ok-old.old _ c.in_ok-target.ensures.told c.in_ok-new.ensures.told c.in_ok-old.ensures.told in
    by_sight c.tidy.result c.in_ok-target.target c.in_ok-new.new c.in_ok-old.old _ _ looks c.tidy.ensures.done

pub returns-clause-stops : goal.returns-clause-stops
returns-clause-stops g c = λ original tree.
    let looks = looks_at c.in_ok-target.target c.in_ok-new.new c.in_ok-old.old _ c.in_ok-target.ensures.told c.in_ok-new.ensures.told c.in_ok-old.ensures.told in
    recovers original tree c.in_ok-target.target c.in_ok-new.new c.in_ok-old.old _ _ _ looks c.tidy.ensures.stops
