use Rattle.std.proofs.Common.{◌≡◌, ◌++◌, Some, drop, map}
use Rattle.ts_perform.specs.Stands.{stands_of}
use Rattle.ts_perform.proofs.acting.sites.Given as goal

abbrev pub invariant-loop-action : goal.invariant-loop-action
invariant-loop-action g l =
    map (λ s. Some (g.R.Disk.stand s)) l.sites.items ++ stands_of l.fn.pair.first.now l.fn.pair.second.now l.fn.checked.plan.entries (drop l.action-index l.fn.checked.plan.actions) ≡ stands_of l.fn.pair.first.now l.fn.pair.second.now l.fn.checked.plan.entries l.fn.checked.plan.actions
