use Rattle.std.proofs.Common.{◌≡◌, ◌++◌, take}
use Rattle.ts_board.specs.Calls.{IsPassOf, IsSamePart, mine, seen}
use Rattle.ts_board.specs.Runs.{StartsWith}
use Rattle.ts_check.specs.Checkup.{IsSourcePart}
use Rattle.ts_model.specs.Trees.{at}
use Rattle.ts_stage.specs.Assemblies.{assembly_of}
use Rattle.ts_print.specs.Parts.{Part}
use Rattle.ts_exec.specs.Failures.{AreRead, TellsTree}
use Rattle.ts_exec.specs.Sharing.{setting_of}
use Rattle.ts_exec.proofs.Rows.{takes_for}
use Rattle.ts_exec.proofs.Wholes.{IsFilled}
use Rattle.ts_exec.proofs.shared.Shared.take_all.Given as goal

-- the pieces so far were taken, in their order
abbrev pub invariant-loop-k : goal.invariant-loop-k
invariant-loop-k g l = record {
  pass : IsPassOf g.S.Site.content l.self.board.now l.pass;
  part : IsSamePart l.fn.pass l.pass;
  later : StartsWith (seen l.pass) (seen l.fn.pass);
  steps : mine l.pass ≡ mine l.fn.pass ++ takes_for l.fn.held.action (take l.k-index l.pieces);
  held : l.held ≡ l.fn.held;
  wanted : l.staged.wanted ≡ l.fn.staged.wanted;
  filled : (
      let x = setting_of g.S.Site g.F.Folder g.G.Stop g.P.Stage l.self in
      (part : Part) (of : IsSourcePart l.self.checked.now l.fn.held.action part) → l.fn.staged ≡ assembly_of part → (told : TellsTree x of.from) → AreRead x (seen l.pass)
      → IsFilled l.self.checked.now.plan of.of_commit.0 (at told.0) (take l.k-index l.pieces) part l.staged);
}
