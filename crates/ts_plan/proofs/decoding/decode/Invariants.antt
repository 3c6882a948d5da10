use Rattle.std.proofs.Common.{◌-◌, length}
use Rattle.ts_plan.specs.Progress.{fed}
use Rattle.ts_plan.specs.Reading.{IsBegun}
use Rattle.ts_plan.proofs.Sources.{Given}
use Rattle.ts_plan.proofs.decoding.decode.Given as goal

-- the lines given are those that the reader has read, which are the beginning of a plan
abbrev pub invariant-loop-reader : goal.invariant-loop-reader
invariant-loop-reader g l = record { given : Given l.initial.lines l.lines (fed l.reader); begun : IsBegun l.reader }

abbrev pub decreases-loop-reader : goal.decreases-loop-reader
decreases-loop-reader g l = 6291459 - length (fed l.reader)
