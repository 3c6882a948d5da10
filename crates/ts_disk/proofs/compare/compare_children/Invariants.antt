use Rattle.std.proofs.Common.{take}
use Rattle.std.specs.List.{AllByRecursion}
use Rattle.ts_disk.proofs.Children.{IsSaid}
use Rattle.ts_disk.proofs.compare.compare_children.Given as goal

-- the children so far are said
abbrev pub invariant-loop-name : goal.invariant-loop-name
invariant-loop-name g l = AllByRecursion (IsSaid l.rows l.path) (take l.name-index l.name-items)
