use Rattle.std.proofs.Common.{take}
use Rattle.ts_preview.specs.Outlooks.{AreOutlooks}
use Rattle.ts_preview.proofs.outlook.outlooks.Given as goal

abbrev pub invariant-loop-entry : goal.invariant-loop-entry
invariant-loop-entry l = AreOutlooks l.archive l.first l.second (take l.entry-index l.entries) l.all.items
