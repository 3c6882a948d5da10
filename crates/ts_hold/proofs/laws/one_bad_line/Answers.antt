use Rattle.ts_hold.proofs.RuleLines.{one_bad_line}
use Rattle.ts_hold.proofs.laws.one_bad_line.Goals as goal

pub returns : goal.returns
returns given = one_bad_line
