use Rattle.std.proofs.Common.{◌≡◌}
use Rattle.ts_board.specs.Calls.{IsAsWide, words_of}
use Rattle.ts_perform.proofs.causes.causes_of.Given as goal

abbrev pub invariant-loop-i : goal.invariant-loop-i
invariant-loop-i g l =
    (l.outcome.results ≡ l.fn.outcome.results) × (words_of l.outcome.closed ≡ words_of l.fn.outcome.closed) × IsAsWide l.fn.outcome.closed l.outcome.closed
