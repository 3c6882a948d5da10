use Rattle.std.proofs.Common.{refl}
use Rattle.ts_command.proofs.Entered.{entered, gives}
use Rattle.ts_command.proofs.reading.read_command.Goals as goal

pub returns-clause-some : goal.returns-clause-some
returns-clause-some c =
    let reading = entered _ _ _ _ c.in_ok-name.ensures.name c.in_ok-name.ensures.rows in
    gives _ _ _ _ reading c.in_ok-job.ensures.some c.in_ok-workers.ensures.some c.in_ok-checkpoint.ensures.some
    record {
      allow_empty = c.is_flagged-allow_empty.ensures;
      explain = c.is_flagged-explain.ensures;
      quiet = c.is_flagged-quiet.ensures;
    }
    refl
