use Rattle.std.proofs.Common.{drop}
use Rattle.ts_tree.proofs.Writing.{Wrote}
use Rattle.ts_perform.specs.Runs.{failure_lines}
use Rattle.ts_perform.proofs.reporting.report_failures.Given as goal

abbrev pub invariant-loop-i : goal.invariant-loop-i
invariant-loop-i g l =
    Wrote (g.E.Sink.holds l.fn.err) (g.E.Sink.holds l.err) (failure_lines l.explain l.plan.entries l.plan.actions l.results l.causes)
    (failure_lines l.explain l.plan.entries (drop l.i l.plan.actions) (drop l.i l.results) (drop l.i l.causes))
