use Rattle.std.proofs.Common.{◌≡◌, length}
use Rattle.ts_through.proofs.cut.no_parts.Given as goal

abbrev pub invariant-loop : goal.invariant-loop
invariant-loop l = length l.parts.items ≡ l.index
