use Rattle.std.proofs.Common.{◌≡◌, ◌+◌, ◌*◌, ◌++◌, length}
use Rattle.ts_scan.specs.Scans.{Children, Adds, Found}
use Rattle.ts_scan.proofs.Levels.{level}
use Rattle.ts_scan.proofs.walk.+walk.Given as goal

abbrev pub decreases-in_parts-ours : goal.decreases-in_parts-ours
decreases-in_parts-ours g l = level l.path.now (4 * length l.first.now + 4)

abbrev pub decreases-in_parts-theirs : goal.decreases-in_parts-theirs
decreases-in_parts-theirs g l = level l.path.now (4 * length l.second.now + 4)

abbrev pub decreases-in_parts : goal.decreases-in_parts
decreases-in_parts g l = level l.path.now (4 * length l.children.now + 2)

abbrev pub decreases-scan_child : goal.decreases-scan_child
decreases-scan_child g l = level l.parent.now 2

abbrev pub decreases-scan_children : goal.decreases-scan_children
decreases-scan_children g l = level l.path.now (4 * length l.children.now + 3)

-- the rows of the children so far were added
abbrev pub invariant-scan_children-loop-child : goal.invariant-scan_children-loop-child
invariant-scan_children-loop-child g l =
    (done : Children) × (l.children ≡ done ++ l.rest)
    × Adds l.fn.work.rows.items l.work.rows.items (Found (g.F.Folder.tells l.folder) l.path done)

abbrev pub decreases-scan_children-loop-child : goal.decreases-scan_children-loop-child
decreases-scan_children-loop-child g l = length l.rest
