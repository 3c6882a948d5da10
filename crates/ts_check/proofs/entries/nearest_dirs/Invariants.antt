use Rattle.std.proofs.Common.{◌≡◌, length}
use Rattle.ts_check.specs.Nearest.{IsNearestIndex}
use Rattle.ts_check.proofs.entries.nearest_dirs.Given as goal

abbrev pub invariant-loop-i : goal.invariant-loop-i
invariant-loop-i l = (length l.nearest.items ≡ l.i) × IsNearestIndex l.entries l.nearest.items
