use Rattle.std.proofs.Common.{◌≡◌, false}
use Rattle.ts_board.specs.Calls.{IsPassOf, IsSamePart, mine, seen}
use Rattle.ts_exec.specs.Stores.{StaysKept}
use Rattle.ts_exec.specs.Tidy.{IsTidy, Listed}
use Rattle.ts_exec.specs.Sharing.{setting_of}
use Rattle.ts_exec.proofs.shared.Shared.work.Given as goal

abbrev pub invariant-turns : goal.invariant-turns
invariant-turns g l = record {
  pass : IsPassOf g.S.Site.content l.self.board.now l.worked.pass;
  part : IsSamePart l.fn.pass l.worked.pass;
  tidy : IsTidy l.self.checked.now.plan (mine l.worked.pass);
  listed : Listed (setting_of g.S.Site g.F.Folder g.G.Stop g.P.Stage l.self) (mine l.worked.pass) (seen l.worked.pass) l.worked.failures.items;
  stopped : l.worked.is_stopped ≡ false;
  kept : StaysKept l.self.checked.now (seen l.fn.pass) (g.K.Keeper.kept l.fn.keeping.keeper) (seen l.worked.pass) (g.K.Keeper.kept l.keeping.keeper);
}
