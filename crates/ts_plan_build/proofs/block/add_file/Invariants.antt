use Rattle.std.proofs.Common.{◌≡◌, ◌≤◌, ◌++◌, length}
use Rattle.ts_model.specs.Plans.{action_limit}
use Rattle.ts_plan_build.specs.Blocks.{each_below, piece_of}
use Rattle.ts_plan_build.proofs.block.add_file.Given as goal

abbrev pub invariant-loop-piece : goal.invariant-loop-piece
invariant-loop-piece l = (l.actions.items ≡ l.initial.actions.items ++ each_below (piece_of l.fn.entry l.fn.path l.fn.size) l.piece) × (length l.actions.items ≤ action_limit)
