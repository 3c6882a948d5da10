use Rattle.std.proofs.Common.{drop}
use Rattle.ts_tree.proofs.Writing.{Wrote}
use Rattle.ts_perform.specs.Runs.{notice_lines}
use Rattle.ts_perform.proofs.reporting.report_notices.Given as goal

abbrev pub invariant-loop-i : goal.invariant-loop-i
invariant-loop-i g l = Wrote (g.E.Sink.holds l.fn.err) (g.E.Sink.holds l.err) (notice_lines l.explain l.notices) (notice_lines l.explain (drop l.i l.notices))
