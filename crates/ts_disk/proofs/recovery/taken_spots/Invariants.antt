use Rattle.std.proofs.Common.{ℕ, ◌<◌, ◌^◌, take}
use Rattle.std.specs.Prelude.{All, Any, Contains}
use Rattle.std.specs.String.{string_bytes}
use Rattle.ts_disk.specs.Names.{IsSpotOf}
use Rattle.ts_disk.proofs.recovery.taken_spots.Given as goal

-- the numbers are those of the names so far
abbrev pub invariant-loop-name : goal.invariant-loop-name
invariant-loop-name l =
    All (λ name. (n : ℕ) → n < 2 ^ 32 → IsSpotOf (string_bytes name) n → Contains l.numbers.items n) (take l.name-index l.names)
    × All (λ n. Any (λ name. IsSpotOf (string_bytes name) n) l.names) l.numbers.items
