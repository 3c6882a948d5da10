use Rattle.std.proofs.Common.{List, ◌++◌, Some, ap, ◌∙◌, subst}
use Rattle.std.proofs.lemmas.Result.{err_from_is_err_and}
use Rattle.std.specs.Io.KnownBytes.{Appends}
use Rattle.ts_text.specs.Sources.{AppendsFront}
use Rattle.ts_model.specs.Texts.{Line, text}
use Rattle.ts_model.specs.declared.plan.Plan.{Plan}
use Rattle.ts_tree.proofs.Writing.{begun_first, nothing_sent}
use Rattle.ts_exec.specs.Ends.{ending_at}
use Rattle.ts_perform.specs.Runs.{failure_lines, lost_by, lost_lines}
use Rattle.ts_perform.proofs.Failures.{lines_same, lost_begun, lost_told, none_lost, report_same, whole_begun}
use Rattle.ts_report.specs.Reports.{fates, report_text, status_of, totals_of}
use Rattle.ts_perform.proofs.reporting.report_outcome.Goals as goal

pub returns-in-Ok-clause-report : goal.returns-in-Ok-clause-report
returns-in-Ok-clause-report g c =
    subst (λ z. Appends (g.O.Sink.holds c.args.out.now) (g.O.Sink.holds c.write_report.new.out) z)
    (report_same c.args.checked.now.plan c.plan-plan.result.now c.args.ended.now.results.items c.plan-plan.ensures.plan) c.in_ok-totals.ensures.written

pub returns-in-Ok-clause-faults : goal.returns-in-Ok-clause-faults
returns-in-Ok-clause-faults g c =
    let plan = c.args.checked.now.plan in let results = c.args.ended.now.results.items in
    let same = lines_same c.args.command.now.explain plan c.plan-plan.result.now results c.as_slice-results.result.now c.args.causes.now c.plan-plan.ensures.plan c.as_slice-results.ensures in
    rw c.in-Ok.is
    (none_lost (g.E.Sink.holds c.args.err.now) (g.E.Sink.holds c.report_failures.new.err) (failure_lines c.args.command.now.explain plan.entries plan.actions results c.args.causes.now)
    (failure_lines c.args.command.now.explain c.plan-plan.result.now.entries c.plan-plan.result.now.actions c.as_slice-results.result.now c.args.causes.now) same c.in_ok-report_failures.ensures.told)

pub returns-in-Ok-clause-status : goal.returns-in-Ok-clause-status
returns-in-Ok-clause-status g c =
    let totals = c.in_ok-totals.ensures.totals ∙ ap (λ (p : Plan). totals_of (fates (ending_at c.args.ended.now.results.items) p)) c.plan-plan.ensures.plan in
    rw c.in-Ok.is (c.status.ensures ∙ ap status_of totals)

pub returns-in_err-totals-clause-report : goal.returns-in_err-totals-clause-report
returns-in_err-totals-clause-report g c =
    let p = err_from_is_err_and c.from_residual.result c.from_residual.ensures.1 in
    rw p.1 (subst (λ z. AppendsFront (g.O.Sink.holds c.args.out.now) (g.O.Sink.holds c.write_report.new.out) z)
    (report_same c.args.checked.now.plan c.plan-plan.result.now c.args.ended.now.results.items c.plan-plan.ensures.plan) c.in_err-totals.ensures.written)

pub returns-in_err-totals-clause-faults : goal.returns-in_err-totals-clause-faults
returns-in_err-totals-clause-faults g c =
    let p = err_from_is_err_and c.from_residual.result c.from_residual.ensures.1 in
    let plan = c.args.checked.now.plan in let results = c.args.ended.now.results.items in
    rw p.1 (nothing_sent (g.E.Sink.holds c.args.err.now) (text (failure_lines c.args.command.now.explain plan.entries plan.actions results c.args.causes.now ++ lost_lines c.args.command.now (lost_by c.args.kept))))

pub returns-in_err-report_failures-clause-report : goal.returns-in_err-report_failures-clause-report
returns-in_err-report_failures-clause-report g c =
    let p = err_from_is_err_and c.from_residual-in_err-report_failures.result c.from_residual-in_err-report_failures.ensures.1 in
    let plan = c.args.checked.now.plan in let results = c.args.ended.now.results.items in
    let written = subst (λ z. Appends (g.O.Sink.holds c.args.out.now) (g.O.Sink.holds c.write_report.new.out) z)
    (report_same plan c.plan-plan.result.now results c.plan-plan.ensures.plan) c.in_ok-totals.ensures.written in
    rw p.1 (whole_begun (g.O.Sink.holds c.args.out.now) (g.O.Sink.holds c.write_report.new.out) (report_text (ending_at results) plan) written)

pub returns-in_err-report_failures-clause-faults : goal.returns-in_err-report_failures-clause-faults
returns-in_err-report_failures-clause-faults g c =
    let p = err_from_is_err_and c.from_residual-in_err-report_failures.result c.from_residual-in_err-report_failures.ensures.1 in
    let plan = c.args.checked.now.plan in let results = c.args.ended.now.results.items in
    let same = lines_same c.args.command.now.explain plan c.plan-plan.result.now results c.as_slice-results.result.now c.args.causes.now c.plan-plan.ensures.plan c.as_slice-results.ensures in
    let old = g.E.Sink.holds c.args.err.now in let new = g.E.Sink.holds c.report_failures.new.err in
    rw p.1 (begun_first old new (failure_lines c.args.command.now.explain plan.entries plan.actions results c.args.causes.now) (lost_lines c.args.command.now (lost_by c.args.kept))
    (subst (λ (l : List Line). AppendsFront old new (text l)) same c.in_err-report_failures.ensures.told))

pub returns-in_err-write_lost-in-Err-clause-report : goal.returns-in_err-write_lost-in-Err-clause-report
returns-in_err-write_lost-in-Err-clause-report g c =
    let p = err_from_is_err_and c.from_residual-in_err-write_lost-in-Err.result c.from_residual-in_err-write_lost-in-Err.ensures.1 in
    let plan = c.args.checked.now.plan in let results = c.args.ended.now.results.items in
    let written = subst (λ z. Appends (g.O.Sink.holds c.args.out.now) (g.O.Sink.holds c.write_report.new.out) z)
    (report_same plan c.plan-plan.result.now results c.plan-plan.ensures.plan) c.in_ok-totals.ensures.written in
    rw p.1 (whole_begun (g.O.Sink.holds c.args.out.now) (g.O.Sink.holds c.write_report.new.out) (report_text (ending_at results) plan) written)

pub returns-in_err-write_lost-in-Err-clause-faults : goal.returns-in_err-write_lost-in-Err-clause-faults
returns-in_err-write_lost-in-Err-clause-faults g c =
    let p = err_from_is_err_and c.from_residual-in_err-write_lost-in-Err.result c.from_residual-in_err-write_lost-in-Err.ensures.1 in
    let plan = c.args.checked.now.plan in let results = c.args.ended.now.results.items in
    let same = lines_same c.args.command.now.explain plan c.plan-plan.result.now results c.as_slice-results.result.now c.args.causes.now c.plan-plan.ensures.plan c.as_slice-results.ensures in
    rw p.1 (rw c.in-Err.is (lost_begun (g.E.Sink.holds c.args.err.now) (g.E.Sink.holds c.report_failures.new.err) (g.E.Sink.holds c.write_lost.new.err) (failure_lines c.args.command.now.explain plan.entries plan.actions results c.args.causes.now)
    (failure_lines c.args.command.now.explain c.plan-plan.result.now.entries c.plan-plan.result.now.actions c.as_slice-results.result.now c.args.causes.now) (lost_lines c.args.command.now (Some c.in-Err.fault)) same
    c.in_ok-report_failures.ensures.told c.in_err-write_lost-in-Err.ensures))

pub returns-in_ok-write_lost-in-Err-clause-report : goal.returns-in_ok-write_lost-in-Err-clause-report
returns-in_ok-write_lost-in-Err-clause-report g c =
    subst (λ z. Appends (g.O.Sink.holds c.args.out.now) (g.O.Sink.holds c.write_report.new.out) z)
    (report_same c.args.checked.now.plan c.plan-plan.result.now c.args.ended.now.results.items c.plan-plan.ensures.plan) c.in_ok-totals.ensures.written

pub returns-in_ok-write_lost-in-Err-clause-faults : goal.returns-in_ok-write_lost-in-Err-clause-faults
returns-in_ok-write_lost-in-Err-clause-faults g c =
    let plan = c.args.checked.now.plan in let results = c.args.ended.now.results.items in
    let same = lines_same c.args.command.now.explain plan c.plan-plan.result.now results c.as_slice-results.result.now c.args.causes.now c.plan-plan.ensures.plan c.as_slice-results.ensures in
    rw c.in-Err.is (lost_told (g.E.Sink.holds c.args.err.now) (g.E.Sink.holds c.report_failures.new.err) (g.E.Sink.holds c.write_lost.new.err) (failure_lines c.args.command.now.explain plan.entries plan.actions results c.args.causes.now)
    (failure_lines c.args.command.now.explain c.plan-plan.result.now.entries c.plan-plan.result.now.actions c.as_slice-results.result.now c.args.causes.now) (lost_lines c.args.command.now (Some c.in-Err.fault)) same
    c.in_ok-report_failures.ensures.told c.in_ok-write_lost-in-Err.ensures)
