use Rattle.std.proofs.Common.{◌≤◌}
use Rattle.ts_model.specs.Trees.{Listing}
use Rattle.ts_model.specs.declared.row.Stamp.{Stamp}
use Rattle.ts_need.specs.Merges.{AreGathered, HasSeen}
use Rattle.ts_print.specs.Walks.{left_count}
use Rattle.ts_need.proofs.differences.gather.Given as goal

abbrev pub invariant-loop-next : goal.invariant-loop-next
invariant-loop-next l =
    ((A F S : Listing Stamp) → HasSeen A F S l.fn.seen l.fn.walk → AreGathered A F S l.fn.holds l.fn.seen.path.now l.walk l.found)
    × (left_count l.walk ≤ left_count l.fn.walk)

abbrev pub decreases-loop-next : goal.decreases-loop-next
decreases-loop-next l = left_count l.walk
