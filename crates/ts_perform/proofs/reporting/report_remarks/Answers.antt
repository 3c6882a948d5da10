use Rattle.std.proofs.lemmas.Result.{err_from_is_err_and}
use Rattle.ts_tree.proofs.Writing.{begun_first, writes_after}
use Rattle.ts_perform.specs.Runs.{notice_lines}
use Rattle.ts_perform.specs.Skips.{asked_skips}
use Rattle.ts_perform.proofs.reporting.report_remarks.Goals as goal

pub returns-in_err-report_notices : goal.returns-in_err-report_notices
returns-in_err-report_notices g c =
    let p = err_from_is_err_and c.from_residual.result c.from_residual.ensures.1 in
    let command = c.args.command.now in
    rw p.1
    (record {
      told = begun_first (g.E.Sink.holds c.args.err.now) (g.E.Sink.holds c.report_notices.new.err) (notice_lines command.explain c.args.remarks.now.notices.now)
          (asked_skips command c.args.remarks.now.skips.now) c.in_err-report_notices.ensures.told;
    })

pub returns : goal.returns
returns g c =
    let command = c.args.command.now in
    record {
      told = writes_after (g.E.Sink.holds c.args.err.now) (g.E.Sink.holds c.report_notices.new.err) (g.E.Sink.holds c.report_asked_skips.new.err)
          (notice_lines command.explain c.args.remarks.now.notices.now) (asked_skips command c.args.remarks.now.skips.now) c.report_asked_skips.result
          c.in_ok-report_notices.ensures.told c.report_asked_skips.ensures.told;
    }
