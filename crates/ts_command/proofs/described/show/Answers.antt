use Rattle.ts_command.proofs.described.show.Goals as goal

pub returns-clause-shape : goal.returns-clause-shape
returns-clause-shape c =
    let first = c.arg.ensures.shape _ _ c.place.ensures.rule c.new.ensures.shape in
    c.arg-2.ensures.shape _ _ c.explain.ensures.rule first
