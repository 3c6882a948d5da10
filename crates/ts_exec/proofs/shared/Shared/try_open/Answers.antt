use Rattle.std.proofs.Common.{Some, set, sym, subst, arith}
use Rattle.ts_model.specs.Runs.{Run}
use Rattle.ts_board.specs.Calls.{mine, seen}
use Rattle.ts_exec.specs.Tidy.{Noted}
use Rattle.ts_exec.specs.Sharing.{setting_of}
use Rattle.ts_exec.proofs.Noting.{noted_failed, noted_none}
use Rattle.ts_exec.proofs.shared.Shared.try_open.Goals as goal

pub returns-in-Some-clause-noted : goal.returns-in-Some-clause-noted
returns-in-Some-clause-noted g c =
    let j = c.args.self.now in let own = mine c.args.pass.now in let s = c.in-Some.ensures.steps in let fs = c.args.faults.now.items in
    let x = setting_of g.S.Site g.F.Folder g.G.Stop g.P.Stage j in
    let room = c.requires.room in let less = c.requires.action in
    let before = seen c.args.pass.now in let then = seen c.attempt.new.pass in
    subst (λ (z : Run). Noted x z then (set fs c.args.i (Some c.in-Some.fault))) (sym s.1)
    (noted_failed x own before then s.0 fs c.args.i c.in-Some.fault c.requires.noted c.in-Some.ensures.seen s.2 s.3 c.in-Some.ensures.fault (omega arith))

pub returns-in_default-clause-noted : goal.returns-in_default-clause-noted
returns-in_default-clause-noted g c =
    let j = c.args.self.now in let own = mine c.args.pass.now in let s = c.in_default.ensures.steps in let fs = c.args.faults.now.items in
    let x = setting_of g.S.Site g.F.Folder g.G.Stop g.P.Stage j in
    let before = seen c.args.pass.now in let then = seen c.attempt.new.pass in
    subst (λ (z : Run). Noted x z then fs) (sym s.1) (noted_none x own before then s.0 fs c.args.i c.requires.noted c.in_default.ensures.seen s.2 s.3)
