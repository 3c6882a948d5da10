use Rattle.std.proofs.Common.{◌≡◌, ◌++◌, drop}
use Rattle.ts_print.specs.Prints.{stamped_rows}
use Rattle.ts_print.proofs.print.Print.of_rows.Given as goal

-- the rows made so far and those to come are all
abbrev pub invariant-loop-row : goal.invariant-loop-row
invariant-loop-row l = l.made.items ++ stamped_rows (drop l.row-index l.rows) ≡ stamped_rows l.rows
