use Rattle.std.proofs.Common.{◌∷◌, [], refl}
use Rattle.ts_explain.specs.Lines.{fault_lines}
use Rattle.ts_model.specs.Texts.{text}
use Rattle.ts_trial.specs.Answers.{refusal}
use Rattle.ts_perform.specs.Trials.{IsQuiet}
use Rattle.ts_perform.proofs.Reported.{half_refused, refuses_broken, refuses_other, writes_begun}
use Rattle.ts_perform.proofs.performing.refuse.Goals as goal

pub returns-in-Err-clause-told : goal.returns-in-Err-clause-told
returns-in-Err-clause-told g c =
    let fault = c.args.fault.now in let command = c.args.command.now in
    let old = g.O.Sink.holds c.args.out.now in let new = g.O.Sink.holds c.write_refusal.new.out in
    let faults = g.E.Sink.holds c.args.err.now in let new_faults = g.E.Sink.holds c.write_fault.new.err in
    refuses_broken command fault c.in-Broken.rule c.in-Broken.place old new faults new_faults c.in-Broken.is
    (half_refused command fault c.with_output_cause-told.result c.in-Broken.rule c.in-Broken.place old new faults new_faults (c.with_output_cause-told.ensures.quiet c.in-Err.ensures.quiet)
    (writes_begun old new (text (refusal c.in-Broken.rule c.in-Broken.place ∷ [])) c.write_refusal.result c.write_refusal.ensures.written)
    (writes_begun faults new_faults (text (fault_lines command c.with_output_cause-told.result)) c.write_fault.result c.write_fault.ensures))

pub returns-in_default : goal.returns-in_default
returns-in_default g c =
    let fault = c.args.fault.now in let command = c.args.command.now in
    let faults = g.E.Sink.holds c.args.err.now in let new_faults = g.E.Sink.holds c.write_fault-in_default.new.err in
    let quiet : IsQuiet fault = λ rule place is. c.in_default.not-Broken rule place is in
    record {
      status = refl;
      told = refuses_other command fault (g.O.Sink.holds c.args.out.now) faults new_faults quiet
          (writes_begun faults new_faults (text (fault_lines command fault)) c.write_fault-in_default.result c.write_fault-in_default.ensures);
    }
