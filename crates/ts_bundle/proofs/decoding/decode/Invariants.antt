use Rattle.ts_tree.proofs.Taken.{Taken}
use Rattle.ts_bundle.proofs.decoding.decode.Given as goal

abbrev pub invariant-loop : goal.invariant-loop
invariant-loop g l = Taken l.fn.lines l.lines l.reader
