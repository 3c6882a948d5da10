use Rattle.std.proofs.Common.{subst}
use Rattle.ts_plan.specs.Reading.{IsProgress}
use Rattle.ts_plan.proofs.Texts.{fed_short}
use Rattle.ts_plan.proofs.Turns.{begun, line_refused, line_taken}
use Rattle.ts_plan.proofs.text.PlanReader.line.Goals as goal

pub returns-in-Ok-clause-reads : goal.returns-in-Ok-clause-reads
returns-in-Ok-clause-reads c =
    let is = subst (λ p. IsProgress p) c.self.view_is c.self.invariant.0 in
    let read = c.in-Ok.ensures in
    line_taken c.args.self.now c.args.line.now c.in-Ok.line c.take-taken.result c.take-taken.new.self is read.0 read.1 c.take-taken.ensures

pub returns-in-Ok-clause-short : goal.returns-in-Ok-clause-short
returns-in-Ok-clause-short c = fed_short c.take-taken.new.self (subst (λ p. IsProgress p) c.self-in-Ok.view_is c.self-in-Ok.invariant.0)

pub returns-in-Err-clause-reads : goal.returns-in-Err-clause-reads
returns-in-Err-clause-reads c =
    let is = subst (λ p. IsProgress p) c.self.view_is c.self.invariant.0 in
    line_refused c.args.self.now c.args.line.now c.in-Err.fault is c.in-Err.ensures

pub returns-in-Err-clause-short : goal.returns-in-Err-clause-short
returns-in-Err-clause-short c = fed_short c.args.self.now (subst (λ p. IsProgress p) c.self.view_is c.self.invariant.0)

pub returns-in-Ok-clause-begun : goal.returns-in-Ok-clause-begun
returns-in-Ok-clause-begun c = begun c.take-taken.new.self (subst (λ p. IsProgress p) c.self-in-Ok.view_is c.self-in-Ok.invariant.0)

pub returns-in-Err-clause-begun : goal.returns-in-Err-clause-begun
returns-in-Err-clause-begun c = begun c.args.self.now (subst (λ p. IsProgress p) c.self.view_is c.self.invariant.0)
