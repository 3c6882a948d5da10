use Rattle.std.proofs.Common.{ℕ, ◌-◌, ◌^◌, List}
use Rattle.sha2.specs.Hashers.{Holds256}
use Rattle.ts_scan.specs.Files.{HasRead}
use Rattle.ts_scan.proofs.file.stamp_of_file.Given as goal

-- what was read so far is what the hasher holds
abbrev pub invariant-loop-count : goal.invariant-loop-count
invariant-loop-count g l =
    g.F.Folder.is_open l.folder l.file l.path
    × ((front : List ℕ) × Holds256 l.hasher front × HasRead (g.F.Folder.tells l.folder) l.path l.offset front)

abbrev pub decreases-loop-count : goal.decreases-loop-count
decreases-loop-count g l = 2 ^ 64 - l.offset
