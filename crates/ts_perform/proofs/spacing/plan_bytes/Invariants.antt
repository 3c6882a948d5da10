use Rattle.std.proofs.Common.{◌≡◌, ◌-◌, ◌^◌, min, sum_by, take}
use Rattle.ts_perform.specs.Spacing.{size_of}
use Rattle.ts_perform.proofs.spacing.plan_bytes.Given as goal

abbrev pub invariant-loop-action : goal.invariant-loop-action
invariant-loop-action l = l.bytes ≡ min (sum_by size_of (take l.action-index l.actions)) (2 ^ 64 - 1)
