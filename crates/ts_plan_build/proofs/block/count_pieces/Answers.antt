use Rattle.ts_plan_build.proofs.Counting.{count_none, count_some}
use Rattle.ts_plan_build.proofs.block.count_pieces.Goals as goal

pub returns-then-size-eq0 : goal.returns-then-size-eq0
returns-then-size-eq0 c = count_none c.args.size c.if-size-eq0.true

pub returns-else-size-eq0 : goal.returns-else-size-eq0
returns-else-size-eq0 c = count_some c.args.size c.if-size-eq0.false
