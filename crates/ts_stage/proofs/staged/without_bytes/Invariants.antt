use Rattle.std.proofs.Common.{◌≡◌, ◌++◌, drop, true}
use Rattle.ts_stage.specs.Assemblies.{begun_rows}
use Rattle.ts_stage.specs.Stagings.{all_held, told_rows}
use Rattle.ts_stage.proofs.staged.without_bytes.Given as goal

-- the rows made so far and those to come are all
abbrev pub invariant-loop-row : goal.invariant-loop-row
invariant-loop-row l = (told_rows l.made.items ++ begun_rows (drop l.row-index l.rows) ≡ begun_rows l.rows) × (all_held l.made.items ≡ true)
