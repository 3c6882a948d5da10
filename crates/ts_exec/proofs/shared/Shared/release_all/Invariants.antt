use Rattle.std.proofs.Common.{◌≡◌, ◌++◌, take}
use Rattle.ts_board.specs.Calls.{IsPassOf, IsSamePart, mine, seen}
use Rattle.ts_board.specs.Runs.{StartsWith}
use Rattle.ts_exec.proofs.Rows.{releases_for}
use Rattle.ts_exec.proofs.shared.Shared.release_all.Given as goal

-- the successors so far were released, in their order
abbrev pub invariant-loop-j : goal.invariant-loop-j
invariant-loop-j g l = record {
  pass : IsPassOf g.S.Site.content l.self.board.now l.pass;
  part : IsSamePart l.fn.pass l.pass;
  later : StartsWith (seen l.pass) (seen l.fn.pass);
  steps : mine l.pass ≡ mine l.fn.pass ++ releases_for l.i (take l.j-index l.successors);
}
