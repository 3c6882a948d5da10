use Rattle.ts_command.proofs.described.trial.Goals as goal

pub returns-clause-shape : goal.returns-clause-shape
returns-clause-shape c =
    let first = c.arg.ensures.shape _ _ c.workers.ensures.rule c.new.ensures.shape in
    c.arg-2.ensures.shape _ _ c.explain.ensures.rule first
