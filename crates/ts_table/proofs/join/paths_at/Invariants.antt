use Rattle.std.proofs.Common.{◌≡◌, take}
use Rattle.std.specs.List.{AllByRecursion}
use Rattle.ts_name.specs.Paths.{IsPath}
use Rattle.ts_table.specs.Slots.{paths_of}
use Rattle.ts_table.specs.Tables.{placed}
use Rattle.ts_table.proofs.join.paths_at.Given as goal

abbrev pub invariant-loop-row : goal.invariant-loop-row
invariant-loop-row g l = record {
  names : l.paths.items ≡ paths_of (placed l.top (take l.row-index l.rows));
  are : AllByRecursion (λ row. IsPath row.path) (placed l.top (take l.row-index l.rows));
}
