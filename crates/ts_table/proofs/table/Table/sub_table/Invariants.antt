use Rattle.std.proofs.Common.{◌≡◌, ◌++◌, take}
use Rattle.ts_table.specs.Tables.{relative, root_row}
use Rattle.ts_table.proofs.table.Table.sub_table.Given as goal

abbrev pub invariant-loop-row : goal.invariant-loop-row
invariant-loop-row g l = l.rows.items ≡ root_row l.path ++ relative l.path (take l.row-index l.below)
