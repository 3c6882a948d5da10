use Rattle.std.proofs.Common.{◌∷◌, [], length, subst}
use Rattle.std.proofs.lemmas.Result.{err_from_is_err_and}
use Rattle.ts_text.specs.Sources.{AppendsFront}
use Rattle.ts_model.specs.Texts.{text}
use Rattle.ts_tree.proofs.Writing.{begun_first, begun_after}
use Rattle.ts_report.specs.Reports.{fate_lines, total_line, totals_of}
use Rattle.ts_report.proofs.writing.write_fates.Goals as goal

-- A beginning of the entries' lines went out.
pub returns-in_err-write_entries-clause-written : goal.returns-in_err-write_entries-clause-written
returns-in_err-write_entries-clause-written g c =
    let p = err_from_is_err_and c.from_residual.result c.from_residual.ensures.1 in
    let entries = c.args.entries.now in
    let all = c.args.fates.now in
    rw p.1 (begun_first (g.W.Sink.holds c.args.sink.now) (g.W.Sink.holds c.write_entries.new.sink) (fate_lines entries all) (total_line (length entries) (totals_of all) ∷ []) c.in_err-write_entries.ensures.written)

-- All of them went out, and a beginning of the totals.
pub returns-in_err-write_total-clause-written : goal.returns-in_err-write_total-clause-written
returns-in_err-write_total-clause-written g c =
    let p = err_from_is_err_and c.from_residual-in_err-write_total.result c.from_residual-in_err-write_total.ensures.1 in
    let entries = c.args.entries.now in
    let all = c.args.fates.now in
    let mid = g.W.Sink.holds c.write_entries.new.sink in
    let new = g.W.Sink.holds c.write_total.new.sink in
    let begun = subst (λ t. AppendsFront mid new (text (total_line (length entries) t ∷ []))) c.count-totals.ensures c.in_err-write_total.ensures.written in
    rw p.1 (begun_after (g.W.Sink.holds c.args.sink.now) mid new (fate_lines entries all) (total_line (length entries) (totals_of all) ∷ []) c.in_ok-write_entries.ensures.written begun)
