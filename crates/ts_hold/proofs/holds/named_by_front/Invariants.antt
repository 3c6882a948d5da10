use Rattle.ts_hold.proofs.Lookups.{NoneShorter}
use Rattle.ts_hold.proofs.holds.named_by_front.Given as goal

abbrev pub invariant-loop-byte : goal.invariant-loop-byte
invariant-loop-byte l = NoneShorter l.rules l.index l.name l.path l.key l.byte-index
