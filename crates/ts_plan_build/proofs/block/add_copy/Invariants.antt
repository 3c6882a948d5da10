use Rattle.std.proofs.Common.{◌≡◌, ◌≤◌, ◌++◌, length, take}
use Rattle.ts_model.specs.Plans.{action_limit}
use Rattle.ts_plan_build.specs.Blocks.{pieces_of}
use Rattle.ts_plan_build.proofs.block.add_copy.Given as goal

abbrev pub invariant-loop-row : goal.invariant-loop-row
invariant-loop-row l = (l.actions.items ≡ l.initial.actions.items ++ pieces_of l.fn.entry (take l.row-index l.rows)) × (length l.actions.items ≤ action_limit)
