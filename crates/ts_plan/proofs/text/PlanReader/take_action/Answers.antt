use Rattle.std.proofs.Common.{refl, arith}
use Rattle.ts_plan.proofs.Steps.{past_action}
use Rattle.ts_plan.proofs.text.PlanReader.take_action.Goals as goal

pub returns-then-action_count-ge-ACTION_LIMIT : goal.returns-then-action_count-ge-ACTION_LIMIT
returns-then-action_count-ge-ACTION_LIMIT c = (refl, past_action c.args.self.now c.args.kind c.requires.body (omega (arith, c.action_count.ensures, c.if-action_count-ge-ACTION_LIMIT.true)))
