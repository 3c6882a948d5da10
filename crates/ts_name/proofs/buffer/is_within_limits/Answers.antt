use Rattle.std.proofs.Common.{arith}
use Rattle.std.proofs.lemmas.Bool.Decides.{nat_tests}
use Rattle.ts_name.proofs.Buffers.{length_whole}
use Rattle.ts_name.proofs.buffer.is_within_limits.Goals as goal

pub overflow_sub-result : goal.overflow_sub-result
overflow_sub-result c = omega (arith, length_whole _ c.requires)

pub returns-then-depth-le-MOST_NAMES : goal.returns-then-depth-le-MOST_NAMES
returns-then-depth-le-MOST_NAMES c = let e = length_whole _ c.requires in grind (arith, nat_tests)
