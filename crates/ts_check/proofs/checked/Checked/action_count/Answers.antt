use Rattle.std.proofs.Common.{ap, arith, length}
use Rattle.ts_model.specs.Sync.{listed_snapshot}
use Rattle.ts_check.proofs.checked.Checked.action_count.Goals as goal
use Rattle.ts_laws.proofs.Bounds.{few_actions}

pub overflow_cast-result : goal.overflow_cast-result
overflow_cast-result c = let few = few_actions (listed_snapshot c.self.inside.archive.now c.self.inside.first.now c.self.inside.second.now c.self.inside.holds.now) c.self.inside.plan.now c.self.invariant.valid in let same = ap length c.as_slice.ensures in omega arith

pub returns-clause-limit : goal.returns-clause-limit
returns-clause-limit c = let few = few_actions (listed_snapshot c.self.inside.archive.now c.self.inside.first.now c.self.inside.second.now c.self.inside.holds.now) c.self.inside.plan.now c.self.invariant.valid in let same = ap length c.as_slice.ensures in omega arith
