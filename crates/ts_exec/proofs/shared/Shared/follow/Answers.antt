use Rattle.std.proofs.Common.{◌++◌, List, sym, subst, arith}
use Rattle.ts_model.specs.Runs.{Run}
use Rattle.ts_board.specs.Calls.{mine, seen}
use Rattle.ts_exec.specs.Tidy.{IsTidy, Listed}
use Rattle.ts_exec.specs.Sharing.{setting_of}
use Rattle.ts_exec.specs.declared.crew.Failure.{Failure}
use Rattle.ts_exec.proofs.Noting.{listed_failed, listed_none}
use Rattle.ts_exec.proofs.Tries.{tidy_append}
use Rattle.ts_exec.proofs.shared.Shared.follow.Goals as goal

pub returns-in-Some-clause-tidy : goal.returns-in-Some-clause-tidy
returns-in-Some-clause-tidy g c =
    let plan = c.args.self.now.checked.now.plan in let s = c.in-Some.ensures.steps in
    subst (λ (z : Run). IsTidy plan z) (sym s.1) (tidy_append plan (mine c.args.worked.now.pass) s.0 c.requires.tidy s.2.tidy)

pub returns-in_default-clause-tidy : goal.returns-in_default-clause-tidy
returns-in_default-clause-tidy g c =
    let plan = c.args.self.now.checked.now.plan in let s = c.attempt.ensures.steps in
    subst (λ (z : Run). IsTidy plan z) (sym s.1) (tidy_append plan (mine c.args.worked.now.pass) s.0 c.requires.tidy s.2.tidy)

pub returns-in-Some-clause-listed : goal.returns-in-Some-clause-listed
returns-in-Some-clause-listed g c =
    let j = c.args.self.now in let own = mine c.args.worked.now.pass in let s = c.in-Some.ensures.steps in let fs = c.args.worked.now.failures.items in
    let x = setting_of g.S.Site g.F.Folder g.G.Stop g.P.Stage j in
    let count = c.action_count.ensures.count in let less = c.if-i-action_count.false in
    let before = seen c.args.worked.now.pass in let then = seen c.attempt.new.pass in
    subst (λ (z : Run). Listed x z then c.push_reserved.new.self.items) (sym s.1)
    (subst (λ (z : List Failure). Listed x (own ++ s.0) then z) (sym c.push_reserved.ensures.items)
    (listed_failed x own before then s.0 fs c.args.i c.in-Some.fault c.requires.listed c.in-Some.ensures.seen s.2 s.3 c.in-Some.ensures.fault (omega arith)))

pub returns-in_default-clause-listed : goal.returns-in_default-clause-listed
returns-in_default-clause-listed g c =
    let j = c.args.self.now in let own = mine c.args.worked.now.pass in let s = c.in_default.ensures.steps in let fs = c.args.worked.now.failures.items in
    let x = setting_of g.S.Site g.F.Folder g.G.Stop g.P.Stage j in
    let before = seen c.args.worked.now.pass in let then = seen c.attempt.new.pass in
    subst (λ (z : Run). Listed x z then fs) (sym s.1) (listed_none x own before then s.0 fs c.args.i c.requires.listed c.in_default.ensures.seen s.2 s.3)
