use Rattle.std.proofs.Common.{◌≡◌, [], length}
use Rattle.std.specs.Prelude.{All}
use Rattle.ts_exec.proofs.crew.members_with.Given as goal

abbrev pub invariant-loop-own : goal.invariant-loop-own
invariant-loop-own l = All (λ m. m.failures.items ≡ []) l.members.items × (length l.members.items ≡ length l.yielded)
