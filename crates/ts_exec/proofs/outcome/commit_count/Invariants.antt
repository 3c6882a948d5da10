use Rattle.std.proofs.Common.{◌≡◌, ◌+◌, ◌≤◌, drop}
use Rattle.ts_board.specs.Terms.{commit_count}
use Rattle.ts_exec.proofs.outcome.commit_count.Given as goal

abbrev pub invariant-loop-action : goal.invariant-loop-action
invariant-loop-action l = record {
  rest : l.count + commit_count (drop l.action-index l.plan.actions) ≡ commit_count l.plan.actions;
  few : l.count ≤ l.action-index;
}
