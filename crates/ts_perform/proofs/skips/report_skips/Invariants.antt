use Rattle.std.proofs.Common.{drop}
use Rattle.ts_tree.proofs.Writing.{Wrote}
use Rattle.ts_perform.specs.Skips.{skip_lines}
use Rattle.ts_perform.proofs.skips.report_skips.Given as goal

abbrev pub invariant-loop-i : goal.invariant-loop-i
invariant-loop-i g l = Wrote (g.E.Sink.holds l.fn.err) (g.E.Sink.holds l.err) (skip_lines l.job l.skips) (skip_lines l.job (drop l.i l.skips))
