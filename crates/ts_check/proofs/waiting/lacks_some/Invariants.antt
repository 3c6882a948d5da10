use Rattle.std.proofs.Common.{◌≡◌, ℕ, ◌<◌, slice_index_or}
use Rattle.ts_model.specs.Plans.{Waits}
use Rattle.ts_check.proofs.waiting.lacks_some.Given as goal

-- it waits for each of those so far
abbrev pub invariant-loop-number : goal.invariant-loop-number
invariant-loop-number l = (n k : ℕ) → n < l.number-index → slice_index_or l.numbers n k ≡ k → Waits l.plan l.i k
