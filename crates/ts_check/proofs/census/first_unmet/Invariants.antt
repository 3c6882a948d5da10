use Rattle.std.proofs.Common.{ℕ, ◌<◌}
use Rattle.ts_check.specs.Places.{IsUnmet}
use Rattle.ts_check.proofs.census.first_unmet.Given as goal

abbrev pub invariant-loop-e : goal.invariant-loop-e
invariant-loop-e l = (k : ℕ) → k < l.e → ¬ IsUnmet l.entries l.role l.numbers k
