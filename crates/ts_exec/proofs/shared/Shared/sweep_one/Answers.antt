use Rattle.std.proofs.Common.{sym, subst}
use Rattle.ts_model.specs.Runs.{Run}
use Rattle.ts_board.specs.Calls.{mine, seen}
use Rattle.ts_exec.specs.Tidy.{Noted}
use Rattle.ts_exec.specs.Sharing.{setting_of}
use Rattle.ts_exec.proofs.Noting.{noted_later}
use Rattle.ts_exec.proofs.Stores.{stays_from, stays_same}
use Rattle.ts_exec.proofs.shared.Shared.sweep_one.Goals as goal

pub returns-then-look-ne0-clause-noted : goal.returns-then-look-ne0-clause-noted
returns-then-look-ne0-clause-noted g c =
    let x = setting_of g.S.Site g.F.Folder g.G.Stop g.P.Stage c.args.self.now in let own = mine c.args.pass.now in let fs = c.args.faults.now.items in
    let then = seen c.look.new.pass in let sees = c.look.ensures.sees in
    subst (λ (z : Run). Noted x z then fs) (sym sees.1) (noted_later x own (seen c.args.pass.now) then fs c.requires.noted sees.0)

pub returns-then-look-ne0-clause-kept : goal.returns-then-look-ne0-clause-kept
returns-then-look-ne0-clause-kept g c =
    stays_same c.args.self.now.checked.now (seen c.args.pass.now) (seen c.look.new.pass) c.look.ensures.sees.0 (g.K.Keeper.kept c.args.keeping.now.keeper)

pub try_open-requires-clause-noted : goal.try_open-requires-clause-noted
try_open-requires-clause-noted g c κs within =
    let x = setting_of g.S.Site g.F.Folder g.G.Stop g.P.Stage c.args.self.now in let own = mine c.args.pass.now in let fs = c.args.faults.now.items in
    let then = seen c.look.new.pass in let sees = c.look.ensures.sees in
    subst (λ (z : Run). Noted x z then fs) (sym sees.1) (noted_later x own (seen c.args.pass.now) then fs c.requires.noted sees.0)

pub returns-clause-kept : goal.returns-clause-kept
returns-clause-kept g c =
    stays_from c.args.self.now.checked.now (seen c.args.pass.now) (seen c.look.new.pass) c.look.ensures.sees.0 (seen c.try_open.new.pass)
    (g.K.Keeper.kept c.args.keeping.now.keeper) (g.K.Keeper.kept c.try_open.new.keeping.keeper) c.try_open.ensures.kept
