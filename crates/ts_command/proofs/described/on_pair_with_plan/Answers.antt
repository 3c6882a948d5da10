use Rattle.ts_command.proofs.described.on_pair_with_plan.Goals as goal

pub returns-clause-shape : goal.returns-clause-shape
returns-clause-shape c =
    c.arg.ensures.shape _ _ c.place.ensures.rule c.on_pair.ensures.shape
