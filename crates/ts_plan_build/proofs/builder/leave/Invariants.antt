use Rattle.std.proofs.Common.{vec_len}
use Rattle.ts_plan_build.specs.Built.{AreOff}
use Rattle.ts_plan_build.proofs.builder.leave.Given as goal

abbrev pub invariant-loop-dir : goal.invariant-loop-dir
invariant-loop-dir l = AreOff l.fn.path l.initial.dirs.items l.dirs.items

abbrev pub decreases-loop-dir : goal.decreases-loop-dir
decreases-loop-dir l = vec_len l.dirs
