use Rattle.ts_hold.proofs.RuleLines.{no_bad_line}
use Rattle.ts_hold.proofs.laws.no_bad_line.Goals as goal

pub returns : goal.returns
returns given = no_bad_line
