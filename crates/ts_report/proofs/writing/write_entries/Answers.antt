use Rattle.std.proofs.Common.{◌∙◌, ◌+◌, ◌∷◌, [], drop, arith}
use Rattle.std.proofs.lemmas.Result.{err_from_is_err_and}
use Rattle.ts_tree.proofs.Writing.{begun_step, wrote_step}
use Rattle.ts_report.specs.Reports.{fate_line, fate_lines}
use Rattle.ts_report.proofs.Sent.{fates_step}
use Rattle.ts_report.proofs.writing.write_entries.Goals as goal

-- A beginning of this line went out.
pub returns-in_err-write_entry-clause-written : goal.returns-in_err-write_entry-clause-written
returns-in_err-write_entry-clause-written g c =
    let p = err_from_is_err_and c.from_residual.result c.from_residual.ensures.1 in
    let entries = c.args.entries.now in
    let all = c.args.fates.now in
    let k = c.loop-k.k in
    let entry = c.index-entries-k.result in
    let became = c.fate_at.result in
    let step = fates_step entries all k entry became (omega arith) (omega (arith, c.requires)) c.index-entries-k.is c.fate_at.ensures in
    rw p.1
    (begun_step (g.W.Sink.holds c.args.sink.now) (g.W.Sink.holds c.loop-k.sink) (g.W.Sink.holds c.write_entry.new.sink) (fate_lines entries all)
    (fate_lines (drop k entries) (drop k all)) (fate_line entry became ∷ []) (fate_lines (drop (k + 1) entries) (drop (k + 1) all)) step c.loop-k.invariant.wrote c.in_err-write_entry.ensures.written)

pub loop-k-preserved : goal.loop-k-preserved
loop-k-preserved g c =
    let entries = c.args.entries.now in
    let all = c.args.fates.now in
    let k = c.loop-k.k in
    let entry = c.index-entries-k.result in
    let became = c.fate_at.result in
    let step = fates_step entries all k entry became (omega arith) (omega (arith, c.requires)) c.index-entries-k.is c.fate_at.ensures in
    record {
      wrote = wrote_step (g.W.Sink.holds c.args.sink.now) (g.W.Sink.holds c.loop-k.sink) (g.W.Sink.holds c.write_entry.new.sink) (fate_lines entries all)
          (fate_lines (drop k entries) (drop k all)) (fate_line entry became ∷ []) (fate_lines (drop (k + 1) entries) (drop (k + 1) all)) step c.loop-k.invariant.wrote c.in_ok-write_entry.ensures.written;
      failures = c.in_ok-write_entry.ensures.failures ∙ c.loop-k.invariant.failures;
    }
