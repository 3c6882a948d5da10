use Rattle.std.proofs.Common.{drop}
use Rattle.ts_tree.proofs.Writing.{Wrote}
use Rattle.ts_preview.specs.Previews.{outlook_lines}
use Rattle.ts_preview.proofs.writing.write_outlooks.Given as goal

abbrev pub invariant-loop-i : goal.invariant-loop-i
invariant-loop-i g l =
    Wrote (g.W.Sink.holds l.fn.sink) (g.W.Sink.holds l.sink) (outlook_lines l.form l.all) (outlook_lines l.form (drop l.i l.all))
