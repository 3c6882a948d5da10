use Rattle.std.proofs.Common.{◌≡◌, ◌++◌, drop}
use Rattle.ts_check.specs.Waiting.{waits_from}
use Rattle.ts_check.proofs.successors.wait_pairs.Given as goal

abbrev pub invariant-loop-i : goal.invariant-loop-i
invariant-loop-i l = l.pairs.items ++ waits_from l.i (drop l.i l.actions) ≡ waits_from 0 l.actions
