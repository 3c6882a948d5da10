use Rattle.std.proofs.Common.{◌≡◌, ◌++◌}
use Rattle.std.specs.List.{AllByRecursion}
use Rattle.ts_name.specs.Paths.{IsPath}
use Rattle.ts_table.specs.Tables.{placed}
use Rattle.ts_table.proofs.subtable.SubTable.placed.Given as goal

abbrev pub invariant-loop-row : goal.invariant-loop-row
invariant-loop-row g l = record {
  rows_are : l.rows.items ≡ placed l.top l.yielded;
  paths : AllByRecursion (λ row. IsPath row.path) (placed l.top l.yielded);
  left : l.fn.self ≡ l.yielded ++ l.row-iterator.rest.items;
}
