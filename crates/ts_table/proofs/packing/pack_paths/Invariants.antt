use Rattle.std.proofs.Common.{◌≡◌}
use Rattle.ts_table.proofs.packing.pack_paths.Given as goal

abbrev pub invariant-loop-row-2 : goal.invariant-loop-row-2
invariant-loop-row-2 g l = l.rows ≡ l.fn.rows
