use Rattle.ts_hold.proofs.Between.{NoneSoFar}
use Rattle.ts_hold.proofs.holds.named_by_middle.Given as goal

abbrev pub invariant-loop-byte : goal.invariant-loop-byte
invariant-loop-byte l = NoneSoFar l.sizes l.rules l.index l.name l.path l.number l.count l.byte-index
