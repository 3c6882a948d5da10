use Rattle.std.proofs.Common.{List, ◌++◌, drop}
use Rattle.ts_model.specs.Trees.{at}
use Rattle.ts_model.specs.declared.row.Stamp.{Stamp}
use Rattle.ts_table.specs.declared.splice.Edit.{Edit}
use Rattle.ts_board.specs.Edits.{AreEdits, marks}
use Rattle.ts_board.specs.Archives.{picked}
use Rattle.ts_board.proofs.archive.mark_edits.Given as goal

-- the edits so far and those of the entries to come are those of all that are flagged
abbrev pub invariant-loop-e : goal.invariant-loop-e
invariant-loop-e l = (more : List (Edit Stamp)) → AreEdits (marks (at l.first) (at l.second)) (picked (drop l.e l.entries) (drop l.e l.flags)) more → AreEdits (marks (at l.first) (at l.second)) (picked l.entries l.flags) (l.edits.items ++ more)
