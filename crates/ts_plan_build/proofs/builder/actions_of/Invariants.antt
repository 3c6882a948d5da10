use Rattle.std.proofs.Common.{◌≡◌, ◌≤◌, length, take}
use Rattle.ts_model.specs.Plans.{action_limit}
use Rattle.ts_plan_build.specs.Built.{IsBuilt}
use Rattle.ts_plan_build.specs.Planned.{planned_actions}
use Rattle.ts_plan_build.proofs.Dirs.{AreDirs}
use Rattle.ts_plan_build.proofs.builder.actions_of.Given as goal

abbrev pub invariant-loop-number : goal.invariant-loop-number
invariant-loop-number l = record {
  limit : length l.actions.items ≤ action_limit;
  counted : length l.actions.items ≡ planned_actions l.fn.first l.fn.second (take l.number l.entries);
  built : IsBuilt l.fn.first l.fn.second l.entries l.actions.items l.number;
  dirs : AreDirs l.entries l.actions.items l.number l.dirs.items;
}
