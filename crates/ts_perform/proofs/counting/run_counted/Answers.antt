use Rattle.std.proofs.Common.{refl}
use Rattle.ts_perform.proofs.Counted.{of_answered, of_others}
use Rattle.ts_perform.proofs.counting.run_counted.Goals as goal

pub returns-in-Ok-clause-outcome : goal.returns-in-Ok-clause-outcome
returns-in-Ok-clause-outcome g c =
    let kept = of_answered c.run_staging-outcome.result.0 c.in-Ok.outcome _ c.in-Ok.is c.run_staging-outcome.ensures.outcome in
    of_others c.in-Ok.outcome kept.0 refl refl refl refl
