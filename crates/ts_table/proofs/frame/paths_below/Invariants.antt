use Rattle.std.proofs.Common.{◌≡◌, take}
use Rattle.ts_table.specs.Slots.{paths_of}
use Rattle.ts_table.specs.Tables.{relative}
use Rattle.ts_table.proofs.frame.paths_below.Given as goal

abbrev pub invariant-loop-row : goal.invariant-loop-row
invariant-loop-row g l = l.paths.items ≡ paths_of (relative l.top (take l.row-index l.rows))
