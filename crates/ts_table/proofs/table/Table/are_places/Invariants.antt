use Rattle.std.proofs.Common.{take}
use Rattle.std.specs.List.{AllByRecursion}
use Rattle.ts_model.specs.Trees.{at}
use Rattle.ts_table.specs.Tables.{IsPlace}
use Rattle.ts_table.proofs.table.Table.are_places.Given as goal

abbrev pub invariant-loop-path : goal.invariant-loop-path
invariant-loop-path g l = AllByRecursion (λ p. IsPlace (at l.self) p) (take l.path-index l.paths)
