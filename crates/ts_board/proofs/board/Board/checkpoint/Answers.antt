use Rattle.std.proofs.Common.{List, Bool, sym, subst}
use Rattle.ts_model.specs.Resume.{IsClosedPart}
use Rattle.ts_board.specs.Archives.{ArchiveOf, flagged}
use Rattle.ts_board.specs.Calls.{seen}
use Rattle.ts_board.specs.Checkpoints.{StaysAgreed}
use Rattle.ts_board.proofs.Archives.{if_ok}
use Rattle.ts_board.proofs.Checkpoints.{stays_agreed}
use Rattle.ts_board.proofs.board.Board.checkpoint.Goals as goal

pub returns-clause-agreed : goal.returns-clause-agreed
returns-clause-agreed g c =
    let k = c.args.checked.now in
    if_ok (ArchiveOf k c.as_slice.result.now) (StaysAgreed k (seen c.seen_entries.new.pass)) c.flagged_archive.result
    (λ rows is. stays_agreed k c.plan-plan.ensures.valid (seen c.seen_entries.new.pass) (flagged k.plan c.as_slice.result.now)
    (subst (λ (fs : List Bool). IsClosedPart k.plan (seen c.seen_entries.new.pass) (flagged k.plan fs)) (sym c.as_slice.ensures.value) c.in_ok-flags.ensures.closed.closed) rows is)
    c.flagged_archive.ensures
