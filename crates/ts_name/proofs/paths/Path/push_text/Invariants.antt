use Rattle.std.proofs.Common.{length}
use Rattle.ts_name.specs.Paths.{name_text}
use Rattle.ts_name.proofs.Texts.{WrittenSoFar}
use Rattle.ts_name.proofs.paths.Path.push_text.Given as goal

abbrev pub invariant-loop-name : goal.invariant-loop-name
invariant-loop-name l = WrittenSoFar name_text l.self l.rest l.fn.out.items l.out.items

abbrev pub decreases-loop-name : goal.decreases-loop-name
decreases-loop-name l = length l.rest
