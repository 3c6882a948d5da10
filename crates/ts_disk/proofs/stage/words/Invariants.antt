use Rattle.std.proofs.Common.{◌≡◌, length}
use Rattle.ts_disk.proofs.stage.words.Given as goal

abbrev pub invariant-loop-number : goal.invariant-loop-number
invariant-loop-number l = length l.words.items ≡ l.number-index
