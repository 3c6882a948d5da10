use Rattle.std.proofs.Common.{◌≤◌, ◌-◌, length}
use Rattle.std.specs.List.{AllWithin}
use Rattle.ts_name.specs.Paths.{IsBefore}
use Rattle.ts_dirty.proofs.marks.place_near.Given as goal

abbrev pub invariant-loop-at : goal.invariant-loop-at
invariant-loop-at l = (l.at ≤ length l.paths) × AllWithin (λ q. IsBefore q l.path) l.paths 0 l.at

abbrev pub decreases-loop-at : goal.decreases-loop-at
decreases-loop-at l = length l.paths - l.at
