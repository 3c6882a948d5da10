use Rattle.std.proofs.Common.{◌≡◌, ◌-◌, ◌^◌, min, sum_by, take}
use Rattle.ts_preview.specs.Totals.{lost_in}
use Rattle.ts_preview.proofs.totals.count_lost.Given as goal

abbrev pub invariant-loop-outlook : goal.invariant-loop-outlook
invariant-loop-outlook l = l.lost ≡ min (sum_by (lost_in l.side) (take l.outlook-index l.all)) (2 ^ 64 - 1)
