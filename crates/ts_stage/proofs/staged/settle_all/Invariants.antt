use Rattle.std.proofs.Common.{◌≡◌, length, take, true}
use Rattle.ts_print.specs.Prints.{stamped_rows}
use Rattle.ts_stage.specs.Stagings.{all_held, told_rows}
use Rattle.ts_stage.proofs.staged.settle_all.Given as goal

-- the rows so far have their stamps; those in memory are as they were
abbrev pub invariant-loop-index : goal.invariant-loop-index
invariant-loop-index l =
    (length l.rows.items ≡ length l.fn.rows.items) × (stamped_rows (told_rows (take l.index l.rows.items)) ≡ take l.index l.stamps) × (all_held l.fn.rows.items ≡ true → l.rows.items ≡ l.fn.rows.items)
