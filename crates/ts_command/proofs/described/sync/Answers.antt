use Rattle.ts_command.proofs.described.sync.Goals as goal

pub returns-clause-shape : goal.returns-clause-shape
returns-clause-shape c =
    let first = c.arg.ensures.shape _ _ c.allow_empty.ensures.rule c.on_pair.ensures.shape in
    c.arg-2.ensures.shape _ _ c.checkpoint.ensures.rule first
