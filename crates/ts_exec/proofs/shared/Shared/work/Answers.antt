use Rattle.std.proofs.Common.{◌∙◌, ap, subst, sym}
use Rattle.ts_board.specs.Calls.{IsPassOf, IsSamePart, mine, seen}
use Rattle.ts_exec.specs.Sharing.{setting_of}
use Rattle.ts_exec.specs.Stores.{StaysKept}
use Rattle.ts_exec.specs.Tidy.{IsTidy, Listed}
use Rattle.ts_exec.proofs.Stores.{stays_through}
use Rattle.ts_exec.proofs.shared.Shared.work.Goals.{in-Some+else-now, in-None}
use Rattle.ts_exec.proofs.shared.Shared.work.Goals as goal

pub turns-preserved : goal.turns-preserved
turns-preserved g c = elim c.match-next.branch [
  | in-Some+else-now w ↦ (
      let j = c.args.self.now in let x = setting_of g.S.Site g.F.Folder g.G.Stop g.P.Stage j in let inv = c.turns.invariant in let f = w.follow.ensures in
      let k = j.checked.now in let first = seen c.args.pass in let then = seen c.turns.worked.pass in let last = seen w.follow.new.worked.pass in
      let old = g.K.Keeper.kept c.args.keeping.now.keeper in let mid = g.K.Keeper.kept c.turns.keeping.keeper in let new = g.K.Keeper.kept w.follow.new.keeping.keeper in
      record {
        pass = subst (λ z. IsPassOf g.S.Site.content j.board.now z.pass) (sym w.worked-is) f.pass.0;
        part = subst (λ z. IsSamePart c.args.pass z.pass) (sym w.worked-is) (f.pass.1.0 ∙ inv.part.0, f.pass.1.1 ∙ inv.part.1);
        tidy = subst (λ z. IsTidy k.plan (mine z.pass)) (sym w.worked-is) f.tidy;
        listed = subst (λ z. Listed x (mine z.pass) (seen z.pass) z.failures.items) (sym w.worked-is) f.listed;
        stopped = ap (λ z. z.is_stopped) w.worked-is ∙ f.stopped ∙ inv.stopped;
        kept = subst (λ z. StaysKept k first old (seen z.pass) (g.K.Keeper.kept c.match-next.keeping.keeper)) (sym w.worked-is)
            (subst (λ z. StaysKept k first old last (g.K.Keeper.kept z.keeper)) (sym w.keeping-is) (stays_through k first then last old mid new inv.kept f.kept));
      })
  | in-None w ↦ (
      let j = c.args.self.now in let x = setting_of g.S.Site g.F.Folder g.G.Stop g.P.Stage j in let inv = c.turns.invariant in
      let k = j.checked.now in let first = seen c.args.pass in let then = seen c.turns.worked.pass in let old = g.K.Keeper.kept c.args.keeping.now.keeper in
      record {
        pass = subst (λ z. IsPassOf g.S.Site.content j.board.now z.pass) (sym w.worked-is) inv.pass;
        part = subst (λ z. IsSamePart c.args.pass z.pass) (sym w.worked-is) inv.part;
        tidy = subst (λ z. IsTidy k.plan (mine z.pass)) (sym w.worked-is) inv.tidy;
        listed = subst (λ z. Listed x (mine z.pass) (seen z.pass) z.failures.items) (sym w.worked-is) inv.listed;
        stopped = ap (λ z. z.is_stopped) w.worked-is ∙ inv.stopped;
        kept = subst (λ z. StaysKept k first old (seen z.pass) (g.K.Keeper.kept c.match-next.keeping.keeper)) (sym w.worked-is)
            (subst (λ z. StaysKept k first old then (g.K.Keeper.kept z.keeper)) (sym w.keeping-is) inv.kept);
      })
]
