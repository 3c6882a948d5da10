use Rattle.std.proofs.Common.{◌∙◌, ap, refl, sym, subst}
use Rattle.std.proofs.lemmas.Result.{err_from_is_err_and}
use Rattle.ts_board.specs.Calls.{slots_of, words_of}
use Rattle.ts_check.specs.Checkup.{Checkup, snapshot_of}
use Rattle.ts_check.specs.Verdict.{IsSafe}
use Rattle.ts_model.specs.Plans.{Valid}
use Rattle.ts_perform.specs.Runs.{Came, lost_by}
use Rattle.ts_perform.specs.Snapshots.{checkup_of}
use Rattle.ts_perform.proofs.Reported.{kept_in, reported, unchecked_right, unlost}
use Rattle.ts_perform.proofs.task.Task.carry_out.Goals as goal

pub returns-in-Ok : goal.returns-in-Ok
returns-in-Ok g c =
    let came : Came = record { checkup = c.in_ok-checked.checked; results = c.split-ended.result.0.results.items; causes = c.as_slice-causes.result.now; lost = lost_by c.keep_archive-kept.result; teaches = c.args.proposal.now.teaches; notices = c.as_slice.result.now; skips = c.as_slice-in-Ok.result.now } in
    let same = c.in_ok-checked.ensures.checked in
    let words = words_of c.split-ended.result.1 in
    let same_results = c.split-ended.ensures.results ∙ c.causes_of-causes.ensures.results in
    let same_words = ap words_of c.split-ended.ensures.closed ∙ c.causes_of-causes.ensures.words in
    record {
      ran = (
        came,
        record {
          checkup = same;
          taught = refl;
          carried_out = record {
            seen = rw same c.requires.seen;
            valid = subst (λ (k : Checkup). Valid (snapshot_of k) k.plan) (sym same) c.in_ok-checked.ensures.valid;
            safe = subst (λ (k : Checkup). IsSafe (snapshot_of k) k.plan) (sym same) c.in_ok-checked.ensures.safe;
            words = words;
            slots = slots_of c.in-Ok.outcome.closed;
            run = rw same_results (rw same_words c.in-Ok.ensures.stands);
            flushed = c.in-Ok.ensures.flushed;
            archive = kept_in g.R.Disk.is_named g.R.Disk.has (λ at. g.R.Disk.taught at c.args.proposal.now.teaches) came.checkup words c.keep_archive-kept.new.place c.args.self.now.pair.now.archive.now c.keep_archive-kept.result
                c.keep_archive-kept.ensures.named c.keep_archive-kept.ensures.kept c.keep_archive-kept.ensures.taught;
            put = unlost _ c.keep_archive-kept.result (rw (← c.as_slice-results.ensures) c.keep_archive-kept.ensures.put);
          };
        },
        reported c.args.self.now.command.now came (g.O.Sink.holds c.args.out.now) (g.O.Sink.holds c.report_all-told.new.out) (g.E.Sink.holds c.args.err.now) (g.E.Sink.holds c.report_all-told.new.err) c.report_all-told.result c.unwrap_or.result
            c.report_all-told.ensures.report c.report_all-told.ensures.faults c.report_all-told.ensures.status c.unwrap_or.ensures,
      );
    }

pub returns-in_err-checked : goal.returns-in_err-checked
returns-in_err-checked g c =
    let p = err_from_is_err_and c.from_residual.result c.from_residual.ensures.1 in
    rw (p.1, p.2) (record { ran = (unchecked_right (checkup_of c.args.proposal.now.snapshot.now c.args.proposal.now.plan.now) _ c.in_err-checked.ensures.refused, refl, refl) })
