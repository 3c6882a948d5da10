use Rattle.ts_command.proofs.described.on_pair.Goals as goal

pub returns-clause-shape : goal.returns-clause-shape
returns-clause-shape c =
    let first = c.arg.ensures.shape _ _ c.place.ensures.rule c.new.ensures.shape in
    let second = c.arg-2.ensures.shape _ _ c.place-2.ensures.rule first in
    let third = c.arg-3.ensures.shape _ _ c.place-3.ensures.rule second in
    let fourth = c.arg-4.ensures.shape _ _ c.holds.ensures.rule third in
    let fifth = c.arg-5.ensures.shape _ _ c.hold_special.ensures.rule fourth in
    let sixth = c.arg-6.ensures.shape _ _ c.workers.ensures.rule fifth in
    let seventh = c.arg-7.ensures.shape _ _ c.explain.ensures.rule sixth in
    c.arg-8.ensures.shape _ _ c.quiet.ensures.rule seventh
