use Rattle.std.specs.Option.{option_copied}
use Rattle.ts_name.specs.Paths.{Path}
use Rattle.ts_model.specs.Sync.{listed_snapshot}
use Rattle.ts_print.specs.Walks.{left_count}
use Rattle.ts_need.specs.Merges.{IsAt}
use Rattle.ts_need.proofs.Entries.{IsChecked}
use Rattle.ts_need.proofs.rules.first_wrong.Given as goal

abbrev pub invariant-loop-next : goal.invariant-loop-next
invariant-loop-next l = (b : Path) × IsAt l.fn.archive l.fn.first l.fn.second l.fn.holds b l.walk (option_copied l.holder)
    × IsChecked (listed_snapshot l.fn.archive l.fn.first l.fn.second l.fn.holds) l.fn.entries b l.next l.lacking

abbrev pub decreases-loop-next : goal.decreases-loop-next
decreases-loop-next l = left_count l.walk
