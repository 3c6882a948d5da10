use Rattle.ts_command.proofs.described.looking.Goals as goal

pub returns : goal.returns
returns c =
    let first = c.subcommand.ensures _ _ c.trial.ensures.local c.trial.ensures.shape c.line.ensures in
    let second = c.subcommand-2.ensures _ _ c.scan.ensures.local c.scan.ensures.shape first in
    let third = c.subcommand-3.ensures _ _ c.show.ensures.local c.show.ensures.shape second in
    let fourth = c.subcommand-4.ensures _ _ c.on_pair.ensures.local c.on_pair.ensures.shape third in
    let fifth = c.subcommand-5.ensures _ _ c.on_pair_with_plan.ensures.local c.on_pair_with_plan.ensures.shape fourth in
    c.subcommand-6.ensures _ _ c.preview.ensures.local c.preview.ensures.shape fifth
