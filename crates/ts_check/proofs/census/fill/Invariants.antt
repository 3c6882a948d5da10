use Rattle.ts_check.proofs.Scans.{IsScanned}
use Rattle.ts_check.proofs.census.fill.Given as goal

abbrev pub invariant-loop-i : goal.invariant-loop-i
invariant-loop-i l = IsScanned l.plan l.role l.i l.numbers.items
