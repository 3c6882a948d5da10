use Rattle.std.proofs.Common.{◌≤◌, ◌-◌, length, IfSome}
use Rattle.ts_folder.specs.Folders.{Reads}
use Rattle.ts_model.specs.Trees.{at}
use Rattle.ts_folder.proofs.folder.Folder.read.Given as goal

-- the bytes so far are those of the file that is open
abbrev pub invariant-loop-bytes : goal.invariant-loop-bytes
invariant-loop-bytes g l =
    g.Self.Folder.is_open l.self l.file l.path
    × (length l.bytes.items ≤ l.wanted)
    × IfSome (g.Self.Folder.tells l.self) (λ rows. Reads (at rows l.path) l.offset (length l.bytes.items) l.bytes.items)

abbrev pub decreases-loop-bytes : goal.decreases-loop-bytes
decreases-loop-bytes g l = l.wanted - length l.bytes.items
