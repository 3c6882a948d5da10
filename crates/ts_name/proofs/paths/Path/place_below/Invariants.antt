use Rattle.std.proofs.Common.{length}
use Rattle.ts_name.proofs.Texts.{WrittenSoFar}
use Rattle.ts_name.proofs.paths.Path.place_below.Given as goal

abbrev pub invariant-loop-name : goal.invariant-loop-name
invariant-loop-name l = WrittenSoFar (λ name. name) l.self l.rest l.fn.root l.place.items

abbrev pub decreases-loop-name : goal.decreases-loop-name
decreases-loop-name l = length l.rest
