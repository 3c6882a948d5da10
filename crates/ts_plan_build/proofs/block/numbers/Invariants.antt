use Rattle.std.proofs.Common.{◌≡◌, ◌+◌, ◌-◌}
use Rattle.ts_plan_build.specs.Blocks.{each_below}
use Rattle.ts_plan_build.proofs.block.numbers.Given as goal

abbrev pub invariant-loop-number : goal.invariant-loop-number
invariant-loop-number l = l.found.items ≡ each_below (λ i. l.fn.from + i) (l.number - l.fn.from)
