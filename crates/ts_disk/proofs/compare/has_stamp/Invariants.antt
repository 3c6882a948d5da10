use Rattle.std.proofs.Common.{ℕ, ◌-◌, ◌^◌, List}
use Rattle.sha2.specs.Hashers.{Holds256}
use Rattle.ts_name.specs.Paths.{Path}
use Rattle.ts_scan.specs.Files.{HasRead}
use Rattle.ts_disk.specs.Compared.{HasFile}
use Rattle.ts_disk.proofs.compare.has_stamp.Given as goal

-- what was read so far is what the hasher holds
abbrev pub invariant-loop-count : goal.invariant-loop-count
invariant-loop-count g l =
    (front : List ℕ) × Holds256 l.hasher front
    × ((p : Path) → g.F.Folder.is_open l.folder l.initial.file p →
    g.F.Folder.is_open l.folder l.file p × (HasFile (g.F.Folder.tells l.folder) p → HasRead (g.F.Folder.tells l.folder) p l.offset front))

abbrev pub decreases-loop-count : goal.decreases-loop-count
decreases-loop-count g l = 2 ^ 64 - l.offset
