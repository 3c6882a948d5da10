use Rattle.std.proofs.Common.{◌<◌, length, arith, refl}
use Rattle.std.proofs.lemmas.Result.{err_from_is_err_and}
use Rattle.ts_tree.proofs.Writing.{begun_item, wrote_item}
use Rattle.ts_perform.specs.Runs.{notice_lines, notice_said}
use Rattle.ts_perform.proofs.reporting.report_notices.Goals as goal

pub loop-i-preserved : goal.loop-i-preserved
loop-i-preserved g c =
    let notices = c.args.notices.now in
    let within : c.loop-i.i < length notices = omega arith in
    wrote_item (notice_said c.args.explain) (notice_lines c.args.explain) (λ l more. refl) notices c.loop-i.i c.index-notices-i.result within c.index-notices-i.is
    (g.E.Sink.holds c.args.err.now) (g.E.Sink.holds c.loop-i.err) (g.E.Sink.holds c.write_notice.new.err) (notice_lines c.args.explain notices) c.loop-i.invariant c.in_ok-write_notice.ensures

pub returns-in_err-write_notice : goal.returns-in_err-write_notice
returns-in_err-write_notice g c =
    let p = err_from_is_err_and c.from_residual.result c.from_residual.ensures.1 in
    let notices = c.args.notices.now in
    let within : c.loop-i.i < length notices = omega arith in
    rw p.1
    (record {
      told = begun_item (notice_said c.args.explain) (notice_lines c.args.explain) (λ l more. refl) notices c.loop-i.i c.index-notices-i.result within c.index-notices-i.is
          (g.E.Sink.holds c.args.err.now) (g.E.Sink.holds c.loop-i.err) (g.E.Sink.holds c.write_notice.new.err) (notice_lines c.args.explain notices) c.loop-i.invariant c.in_err-write_notice.ensures;
    })
