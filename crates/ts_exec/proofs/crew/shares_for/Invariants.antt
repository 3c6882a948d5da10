use Rattle.std.proofs.Common.{◌≡◌, length}
use Rattle.ts_exec.proofs.crew.shares_for.Given as goal

abbrev pub invariant-loop : goal.invariant-loop
invariant-loop l = length l.shares.items ≡ l.counter
