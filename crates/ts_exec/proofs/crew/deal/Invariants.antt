use Rattle.std.proofs.Common.{◌<◌, length}
use Rattle.ts_exec.proofs.crew.deal.Given as goal

abbrev pub invariant-loop-i : goal.invariant-loop-i
invariant-loop-i l = l.next < length l.shares
