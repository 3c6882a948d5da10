use Rattle.std.proofs.Common.{◌≡◌, ◌++◌}
use Rattle.ts_check.proofs.standing.listed.Given as goal

abbrev pub invariant-loop-place : goal.invariant-loop-place
invariant-loop-place l = l.staged.items ++ l.place-iterator ≡ l.map.entries
