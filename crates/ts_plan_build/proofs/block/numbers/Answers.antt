use Rattle.std.proofs.Common.{arith}
use Rattle.ts_plan_build.proofs.Counting.{numbers_more}
use Rattle.ts_plan_build.proofs.block.numbers.Goals as goal

pub loop-number-preserved : goal.loop-number-preserved
loop-number-preserved c = numbers_more c.args.from c.loop-number.number c.loop-number.found.items _ (omega arith) c.loop-number.invariant c.in_ok-push.ensures.items
