use Rattle.std.proofs.Common.{◌≡◌, take}
use Rattle.ts_table.proofs.table.same_rows.Given as goal

abbrev pub invariant-loop-index : goal.invariant-loop-index
invariant-loop-index g l = take l.index l.ours ≡ take l.index l.theirs
