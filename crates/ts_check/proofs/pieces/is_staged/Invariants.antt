use Rattle.std.proofs.Common.{◌≡◌, ℕ, ◌<◌, ◌≤◌, Some, slice_get}
use Rattle.ts_model.specs.declared.row.Content.TheVariants.{File}
use Rattle.ts_model.specs.declared.row.Row.{Row}
use Rattle.ts_model.specs.declared.row.Stamp.{Stamp}
use Rattle.ts_check.specs.Pieces.{HasAll}
use Rattle.ts_check.proofs.pieces.is_staged.Given as goal

abbrev pub invariant-loop-k : goal.invariant-loop-k
invariant-loop-k l = (k : ℕ) (row : Row Stamp) (stamp : Stamp) → l.start ≤ k → k < l.k → slice_get l.rows k ≡ Some row → row.content ≡ File stamp → HasAll l.staged l.e k stamp.size
