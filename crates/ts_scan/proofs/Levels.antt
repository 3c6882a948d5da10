-- A scan goes down the levels of a folder, and through the children of each.
use Rattle.std.proofs.Common.{ℕ, ◌+◌, ◌-◌, ◌*◌, ◌^◌, length}
use Rattle.ts_name.specs.Paths.{Path}

-- what is left at a path, where so much is left of its own level, and a level is more than all children of a directory
-- count for
abbrev pub level : Path → ℕ → ℕ
level p rest = (65 - length p) * 2 ^ 71 + rest
