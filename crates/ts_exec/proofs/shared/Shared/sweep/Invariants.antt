use Rattle.std.proofs.Common.{◌≡◌, length}
use Rattle.ts_board.specs.Calls.{IsPassOf, IsSamePart, mine, seen}
use Rattle.ts_exec.specs.Stores.{StaysKept}
use Rattle.ts_exec.specs.Tidy.{IsTidy, Noted, Swept}
use Rattle.ts_exec.specs.Sharing.{setting_of}
use Rattle.ts_exec.proofs.shared.Shared.sweep.Given as goal

abbrev pub invariant-loop-i : goal.invariant-loop-i
invariant-loop-i g l = record {
  pass : IsPassOf g.S.Site.content l.self.board.now l.pass;
  part : IsSamePart l.fn.pass l.pass;
  tidy : IsTidy l.self.checked.now.plan (mine l.pass);
  room : length l.faults.items ≡ length l.self.checked.now.plan.actions;
  noted : Noted (setting_of g.S.Site g.F.Folder g.G.Stop g.P.Stage l.self) (mine l.pass) (seen l.pass) l.faults.items;
  swept : Swept l.self.checked.now.plan l.i (mine l.pass) (seen l.pass);
  kept : StaysKept l.self.checked.now (seen l.fn.pass) (g.K.Keeper.kept l.fn.keeping.keeper) (seen l.pass) (g.K.Keeper.kept l.keeping.keeper);
}
