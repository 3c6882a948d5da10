use Rattle.std.proofs.Common.{◌≡◌, length}
use Rattle.ts_model.specs.Trees.{at}
use Rattle.ts_board.specs.Edits.{MayFollow, left_by, marks}
use Rattle.ts_board.specs.Archives.{picked}
use Rattle.ts_board.proofs.archive.with_marks.Given as goal

-- what the marks of the other entries leave of the print so far is what all leave of the archive
abbrev pub invariant-loop-rest : goal.invariant-loop-rest
invariant-loop-rest l = record {
  follow : MayFollow (marks (at l.first) (at l.second)) (at l.print) (picked l.rest l.rest_flags);
  count : length l.rest_flags ≡ length l.rest;
  leaves : left_by (marks (at l.first) (at l.second)) (at l.print) (picked l.rest l.rest_flags)
      ≡ left_by (marks (at l.first) (at l.second)) (at l.archive) (picked l.entries l.flags);
}

abbrev pub decreases-loop-rest : goal.decreases-loop-rest
decreases-loop-rest l = length l.rest
