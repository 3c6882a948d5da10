use Rattle.std.proofs.Common.{◌≡◌, ◌+◌, decimal, length}
use Rattle.std.specs.Int.Digits.{digits_of}
use Rattle.ts_perform.proofs.lengths.digits_of.Given as goal

abbrev pub invariant-next : goal.invariant-next
invariant-next l = length (decimal l.number) ≡ l.digits + length (digits_of 10 l.rest)

abbrev pub decreases-next : goal.decreases-next
decreases-next l = l.rest
