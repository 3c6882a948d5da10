use Rattle.std.proofs.Common.{inl, refl}
use Rattle.ts_perform.proofs.Pairs.{in_check, in_plan, in_preview, in_run, in_scan, in_show, in_sync, in_tell}
use Rattle.ts_perform.proofs.Reported.{answers_fault, answers_refusal, answers_verdict, caused_as_broken, quiet_as, quiet_or_broken, verdict_told}
use Rattle.ts_perform.proofs.Trials.{told_refusal}
use Rattle.ts_perform.proofs.performing.perform.Goals as goal

pub returns-in-Ok-clause-tell : goal.returns-in-Ok-clause-tell
returns-in-Ok-clause-tell g c = in_tell c.args.command.now.job _ _ (λ printed. inl printed) c.in-Ok.ensures.tell

pub returns-in-Ok-clause-scan : goal.returns-in-Ok-clause-scan
returns-in-Ok-clause-scan g c = in_scan c.args.command.now.job _ _ (λ root printed. inl printed) c.in-Ok.ensures.scan

pub returns-in-Ok-clause-show : goal.returns-in-Ok-clause-show
returns-in-Ok-clause-show g c = in_show c.args.command.now.job _ _ (λ name printed. inl printed) c.in-Ok.ensures.show

pub returns-in-Ok-clause-plan : goal.returns-in-Ok-clause-plan
returns-in-Ok-clause-plan g c = in_plan c.args.command.now.job _ _ (λ pair printed. (_, printed.1, inl (printed.0, refl))) c.in-Ok.ensures.plan

pub returns-in-Ok-clause-preview : goal.returns-in-Ok-clause-preview
returns-in-Ok-clause-preview g c = in_preview c.args.command.now.job _ _ (λ pair json printed. (_, printed.1, inl (printed.0, refl))) c.in-Ok.ensures.preview

pub returns-in-Ok-clause-check : goal.returns-in-Ok-clause-check
returns-in-Ok-clause-check g c = in_check c.args.command.now.job _ _ (λ pair plan judged. (_, judged.1, verdict_told c.args.command.now _ (g.O.Sink.holds c.args.out.now) (g.O.Sink.holds c.answer.new.out) (g.E.Sink.holds c.answer.new.err) (g.E.Sink.holds c.answer.new.err) c.in-Ok.status (judged.0, refl))) c.in-Ok.ensures.check

pub returns-in-Ok-clause-run : goal.returns-in-Ok-clause-run
returns-in-Ok-clause-run g c = in_run c.args.command.now.job _ _ (λ pair plan ran. inl ran) c.in-Ok.ensures.run

pub returns-in-Ok-clause-sync : goal.returns-in-Ok-clause-sync
returns-in-Ok-clause-sync g c = in_sync c.args.command.now.job _ _ (λ pair ran. inl ran) c.in-Ok.ensures.sync

pub returns-in-Err : goal.returns-in-Err
returns-in-Err g c =
    let old = g.O.Sink.holds c.args.out.now in let mid = g.O.Sink.holds c.answer.new.out in let new = g.O.Sink.holds c.refuse.new.out in
    let old_faults = g.E.Sink.holds c.args.err.now in let mid_faults = g.E.Sink.holds c.answer.new.err in let new_faults = g.E.Sink.holds c.refuse.new.err in
    let refuses = c.refuse.ensures.told in let is = c.refuse.ensures.status in
    let job = c.args.command.now.job in let fault = c.in-Err.fault in let ensures = c.in-Err.ensures in
    let told = c.with_output_cause-told.result in let same_plan = caused_as_broken c.cause.result fault told c.with_output_cause-told.ensures.cause in
    record {
      trial = λ trial. told_refusal (g.I.Source.holds c.args.input) old mid new c.refuse.result is (refuses.other (quiet_as fault told same_plan (c.in-Err.ensures.quiet trial))).0 (c.in-Err.ensures.trial trial);
      tell = in_tell job _ _ (λ printed. answers_fault c.args.command.now _ old mid new old_faults mid_faults new_faults fault told c.refuse.result same_plan printed is refuses) ensures.tell;
      scan = in_scan job _ _ (λ root printed. answers_fault c.args.command.now _ old mid new old_faults mid_faults new_faults fault told c.refuse.result same_plan printed is refuses) ensures.scan;
      show = in_show job _ _ (λ name printed. answers_fault c.args.command.now _ old mid new old_faults mid_faults new_faults fault told c.refuse.result same_plan printed is refuses) ensures.show;
      plan = in_plan job _ _ (λ pair printed. (mid_faults, printed.1, answers_fault c.args.command.now _ old mid new mid_faults mid_faults new_faults fault told c.refuse.result same_plan (printed.0, refl) is refuses)) ensures.plan;
      preview = in_preview job _ _ (λ pair json printed. (mid_faults, printed.1, answers_fault c.args.command.now _ old mid new mid_faults mid_faults new_faults fault told c.refuse.result same_plan (printed.0, refl) is refuses)) ensures.preview;
      check = in_check job _ _ (λ pair plan judged. (mid_faults, judged.1, answers_verdict c.args.command.now _ old mid new mid_faults mid_faults new_faults fault told c.refuse.result same_plan (judged.0, refl) is (quiet_or_broken fault) refuses)) ensures.check;
      run = in_run job _ _ (λ pair plan ran. answers_refusal c.args.command.now _ old mid new old_faults mid_faults new_faults fault told c.refuse.result same_plan ran is refuses) ensures.run;
      sync = in_sync job _ _ (λ pair ran. answers_refusal c.args.command.now _ old mid new old_faults mid_faults new_faults fault told c.refuse.result same_plan ran is refuses) ensures.sync;
    }
