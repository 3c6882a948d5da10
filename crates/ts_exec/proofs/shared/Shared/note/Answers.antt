use Rattle.std.proofs.Common.{◌<◌, List, length, Some, sym, subst, ◌∙◌, arith, length-set}
use Rattle.std.proofs.lemmas.List.{take_all}
use Rattle.std.specs.Prelude.{slice_index_or}
use Rattle.ts_exec.specs.Tidy.{IsListed}
use Rattle.ts_exec.specs.Sharing.{setting_of}
use Rattle.ts_exec.specs.declared.crew.Failure.{Failure}
use Rattle.ts_exec.specs.declared.fault.ActFault.TheVariants as fault
use Rattle.ts_exec.proofs.Noting.{fault_kept, got_index, noted_more}
use Rattle.ts_exec.proofs.shared.Shared.note.Goals as goal

pub loop-failure-preserved : goal.loop-failure-preserved
loop-failure-preserved g c =
    let j = c.args.self.now in let fs = c.args.failures.now in let n = c.loop-failure.failure-index in let inv = c.loop-failure.invariant in let faults = c.loop-failure.faults.items in
    let x = setting_of g.S.Site g.F.Folder g.G.Stop g.P.Stage j in
    let e : Failure = slice_index_or fs n (record { action = 0; fault = fault.OutOfMemory }) in
    let h : n < length fs = c.loop-failure-test.true in
    let at = got_index fs n (record { action = 0; fault = fault.OutOfMemory }) h in
    let room = c.requires.room in let same = inv.0 in let less = c.requires.within n e at in
    let within : e.action < length faults = omega arith in (
      length-set faults e.action (Some e.fault) ∙ inv.0,
      (λ r may i had. fault_kept x r faults e.action e.fault within (may n e at).1 i (inv.1 r may i had)),
      (λ r may. noted_more x r faults fs n e at within (may n e at).1 (inv.2 r may)),
    )

pub returns-clause-noted : goal.returns-clause-noted
returns-clause-noted g c = λ r may i listed.
    let fs = c.args.failures.now in let n = c.loop-failure.failure-index in
    c.loop-failure.invariant.2 r may i (subst (λ (z : List Failure). IsListed i z) (sym (take_all n fs c.loop-failure-test.false)) listed)
