use Rattle.std.proofs.Common.{◌≡◌, ◌++◌, drop, length, map}
use Rattle.ts_disk.proofs.stage.counts.Given as goal

-- the pieces so far have their numbers and their words
abbrev pub invariant-loop-part : goal.invariant-loop-part
invariant-loop-part l =
    (l.parts.items ++ map (λ part. part.piece) (drop l.part-index l.pieces) ≡ map (λ part. part.piece) l.pieces) × (length l.waiting.items ≡ l.part-index)
