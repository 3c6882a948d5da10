use Rattle.std.proofs.Common.{◌≡◌, take}
use Rattle.ts_folder.specs.Children.{children}
use Rattle.ts_folder.proofs.memory.children.Given as goal

-- the names so far are those of the rows so far
abbrev pub invariant-loop-row : goal.invariant-loop-row
invariant-loop-row l = l.names.items ≡ children l.path (take l.row-index l.rows)
