use Rattle.std.proofs.Common.{◌≡◌, ◌⊎◌, [], take}
use Rattle.std.specs.Prelude.{All, Any}
use Rattle.std.specs.String.{string_bytes}
use Rattle.ts_disk.specs.Flushing.{IsAboveAt}
use Rattle.ts_disk.proofs.flushing.places_above.Given as goal

-- the places are those of the paths so far
abbrev pub invariant-loop-path : goal.invariant-loop-path
invariant-loop-path l =
    All (λ path. (path.now ≡ []) ⊎ Any (λ place. IsAboveAt l.root path.now (string_bytes place)) l.places.items) (take l.path-index l.paths)
    × All (λ place. Any (λ path. IsAboveAt l.root path.now (string_bytes place)) l.paths) l.places.items
