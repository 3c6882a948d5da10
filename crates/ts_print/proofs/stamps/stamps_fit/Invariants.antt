use Rattle.std.proofs.Common.{take}
use Rattle.std.specs.List.{AllByRecursion}
use Rattle.ts_model.specs.Texts.{StampFits}
use Rattle.ts_print.proofs.stamps.stamps_fit.Given as goal

abbrev pub invariant-loop-row : goal.invariant-loop-row
invariant-loop-row l = AllByRecursion (λ row. StampFits row.content) (take l.row-index l.rows)
