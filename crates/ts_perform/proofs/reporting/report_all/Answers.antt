use Rattle.std.proofs.Common.{◌++◌}
use Rattle.std.proofs.lemmas.Result.{err_from_is_err_and}
use Rattle.ts_tree.proofs.Writing.{begun_after, begun_first, sent_more}
use Rattle.ts_exec.specs.Ends.{ending_at}
use Rattle.ts_perform.specs.Runs.{failure_lines, lost_by, lost_lines, remark_lines}
use Rattle.ts_perform.proofs.Failures.{whole_begun}
use Rattle.ts_report.specs.Reports.{report_text}
use Rattle.ts_perform.proofs.reporting.report_all.Goals as goal

pub returns-in_err-status-clause-faults : goal.returns-in_err-status-clause-faults
returns-in_err-status-clause-faults g c =
    let p = err_from_is_err_and c.from_residual.result c.from_residual.ensures.1 in
    let plan = c.args.checked.now.plan in
    let lines = failure_lines c.args.command.now.explain plan.entries plan.actions c.args.ended.now.results.items c.args.causes.now ++ lost_lines c.args.command.now (lost_by c.args.kept) in
    rw p.1 (begun_first (g.E.Sink.holds c.args.err.now) (g.E.Sink.holds c.report_outcome.new.err) lines (remark_lines c.args.command.now c.args.remarks.now.notices.now c.args.remarks.now.skips.now) c.in_err-status.ensures.faults)

pub returns-in_err-report_remarks-clause-report : goal.returns-in_err-report_remarks-clause-report
returns-in_err-report_remarks-clause-report g c =
    let p = err_from_is_err_and c.from_residual-in_err-report_remarks.result c.from_residual-in_err-report_remarks.ensures.1 in
    let report = report_text (ending_at c.args.ended.now.results.items) c.args.checked.now.plan in
    rw p.1 (whole_begun (g.O.Sink.holds c.args.out.now) (g.O.Sink.holds c.report_outcome.new.out) report c.in_ok-status.ensures.report)

pub returns-in_err-report_remarks-clause-faults : goal.returns-in_err-report_remarks-clause-faults
returns-in_err-report_remarks-clause-faults g c =
    let p = err_from_is_err_and c.from_residual-in_err-report_remarks.result c.from_residual-in_err-report_remarks.ensures.1 in
    let plan = c.args.checked.now.plan in
    let lines = failure_lines c.args.command.now.explain plan.entries plan.actions c.args.ended.now.results.items c.args.causes.now ++ lost_lines c.args.command.now (lost_by c.args.kept) in
    rw p.1
    (begun_after (g.E.Sink.holds c.args.err.now) (g.E.Sink.holds c.report_outcome.new.err) (g.E.Sink.holds c.report_remarks.new.err) lines (remark_lines c.args.command.now c.args.remarks.now.notices.now c.args.remarks.now.skips.now)
    c.in_ok-status.ensures.faults c.in_err-report_remarks.ensures.told)

pub returns-clause-faults : goal.returns-clause-faults
returns-clause-faults g c =
    let plan = c.args.checked.now.plan in
    let lines = failure_lines c.args.command.now.explain plan.entries plan.actions c.args.ended.now.results.items c.args.causes.now ++ lost_lines c.args.command.now (lost_by c.args.kept) in
    sent_more (g.E.Sink.holds c.args.err.now) (g.E.Sink.holds c.report_outcome.new.err) (g.E.Sink.holds c.report_remarks.new.err) lines (remark_lines c.args.command.now c.args.remarks.now.notices.now c.args.remarks.now.skips.now)
    c.in_ok-status.ensures.faults c.in_ok-report_remarks.ensures.told
