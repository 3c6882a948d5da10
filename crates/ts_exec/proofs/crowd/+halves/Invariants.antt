use Rattle.std.proofs.Common.{◌+◌, ◌*◌, length}
use Rattle.ts_exec.proofs.crowd.+halves.Given as goal

abbrev pub decreases-work_in_halves : goal.decreases-work_in_halves
decreases-work_in_halves g l = 2 * length l.members.items

abbrev pub decreases-others : goal.decreases-others
decreases-others g l = 2 * length l.members.items + 1
