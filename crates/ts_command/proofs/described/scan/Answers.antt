use Rattle.ts_command.proofs.described.scan.Goals as goal

pub returns-clause-shape : goal.returns-clause-shape
returns-clause-shape c =
    let first = c.arg.ensures.shape _ _ c.place.ensures.rule c.new.ensures.shape in
    let second = c.arg-2.ensures.shape _ _ c.workers.ensures.rule first in
    let third = c.arg-3.ensures.shape _ _ c.explain.ensures.rule second in
    c.arg-4.ensures.shape _ _ c.quiet.ensures.rule third
