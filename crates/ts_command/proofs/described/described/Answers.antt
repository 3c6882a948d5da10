use Rattle.ts_command.proofs.described.described.Goals as goal

pub returns : goal.returns
returns c =
    let first = c.subcommand.ensures _ _ c.run.ensures.local c.run.ensures.shape c.looking.ensures in
    c.subcommand-2.ensures _ _ c.sync.ensures.local c.sync.ensures.shape first
