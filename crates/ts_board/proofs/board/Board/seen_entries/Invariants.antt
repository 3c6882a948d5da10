use Rattle.std.proofs.Common.{◌≤◌, length}
use Rattle.ts_board.specs.Calls.{IsPassOf, IsSamePart, seen, terms_of}
use Rattle.ts_board.specs.Checkpoints.{HasLooked}
use Rattle.ts_board.proofs.Checkpoints.{AreSeenFrom}
use Rattle.ts_board.proofs.board.Board.seen_entries.Given as goal

abbrev pub invariant-loop-i : goal.invariant-loop-i
invariant-loop-i g l = record {
  pass : IsPassOf g.S.Site.content l.self l.pass;
  part : IsSamePart l.fn.pass l.pass;
  looked : HasLooked (terms_of g.S.Site.content l.self) l.fn.pass l.pass;
  within : l.i ≤ length l.checked.plan.actions;
  seen : AreSeenFrom l.checked.plan l.i (seen l.fn.pass) (seen l.pass) l.flags.items;
}

abbrev pub decreases-loop-i : goal.decreases-loop-i
decreases-loop-i g l = l.i
