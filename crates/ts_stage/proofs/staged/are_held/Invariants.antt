use Rattle.std.proofs.Common.{◌≡◌, take, true}
use Rattle.ts_stage.specs.Stagings.{all_held}
use Rattle.ts_stage.proofs.staged.are_held.Given as goal

abbrev pub invariant-loop-row : goal.invariant-loop-row
invariant-loop-row l = all_held (take l.row-index l.rows) ≡ true
