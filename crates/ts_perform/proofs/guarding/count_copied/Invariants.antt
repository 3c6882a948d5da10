use Rattle.std.proofs.Common.{◌≡◌, ◌-◌, ◌^◌, min, sum_by, take}
use Rattle.ts_perform.specs.Guards.{copied_files}
use Rattle.ts_perform.proofs.guarding.count_copied.Given as goal

abbrev pub invariant-loop-entry : goal.invariant-loop-entry
invariant-loop-entry l = l.count ≡ min (sum_by (copied_files l.into l.print) (take l.entry-index l.entries)) (2 ^ 64 - 1)
