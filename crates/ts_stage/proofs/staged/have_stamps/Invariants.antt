use Rattle.std.proofs.Common.{◌≡◌, take}
use Rattle.ts_print.specs.Prints.{stamped_rows}
use Rattle.ts_stage.specs.Stagings.{told_rows}
use Rattle.ts_stage.proofs.staged.have_stamps.Given as goal

abbrev pub invariant-loop-index : goal.invariant-loop-index
invariant-loop-index l = stamped_rows (told_rows (take l.index l.rows)) ≡ take l.index l.stamps
