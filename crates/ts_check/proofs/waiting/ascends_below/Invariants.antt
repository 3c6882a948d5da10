use Rattle.std.proofs.Common.{drop}
use Rattle.ts_check.specs.Waiting.{AscendFrom}
use Rattle.ts_check.proofs.waiting.ascends_below.Given as goal

abbrev pub invariant-loop-number : goal.invariant-loop-number
invariant-loop-number l = (AscendFrom l.low l.n (drop l.number-index l.numbers) → AscendFrom 0 l.n l.numbers) × (AscendFrom 0 l.n l.numbers → AscendFrom l.low l.n (drop l.number-index l.numbers))
