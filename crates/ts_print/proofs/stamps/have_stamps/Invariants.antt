use Rattle.std.proofs.Common.{◌≡◌, take}
use Rattle.ts_print.specs.Prints.{stamped_rows}
use Rattle.ts_print.proofs.stamps.have_stamps.Given as goal

abbrev pub invariant-loop-index : goal.invariant-loop-index
invariant-loop-index l = stamped_rows (take l.index l.rows) ≡ take l.index l.stamps
