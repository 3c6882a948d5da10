use Rattle.std.proofs.Common.{◌≡◌, ◌∙◌, ◌∷◌, [], ◌++◌, codes, length, map, ap, subst}
use Rattle.std.proofs.lemmas.Result.{err_from_is_err_and}
use Rattle.std.specs.Io.KnownBytes.{Appends}
use Rattle.ts_text.specs.Sources.{AppendsFront}
use Rattle.ts_model.specs.Texts.{text}
use Rattle.ts_model.specs.Trial.{report_line, total_line}
use Rattle.ts_tree.proofs.Writing.{begun_first, begun_after, nothing_sent, sent_more}
use Rattle.ts_report.specs.Reports.{report_lines}
use Rattle.ts_bundle.proofs.Fates.{fates_length, same_report}
use Rattle.ts_bundle.proofs.results.write_report.Goals as goal

pub write_fates-requires : goal.write_fates-requires
write_fates-requires g c = ap length (c.deref.ensures.value ∙ c.in_ok-fates.ensures.fates) ∙ fates_length c.args.entries.now

-- A beginning of the title went out.
pub returns-in_err-put_line-clause-written : goal.returns-in_err-put_line-clause-written
returns-in_err-put_line-clause-written g c =
    let p = err_from_is_err_and c.from_residual.result c.from_residual.ensures.1 in
    let rest = map report_line c.args.entries.now ++ (total_line c.args.entries.now ∷ []) in
    rw p.1 (begun_first (g.W.Sink.holds c.args.sink.now) (g.W.Sink.holds c.put_line.new.sink) (codes "report" ∷ []) rest c.in_err-put_line.ensures.written)

-- The title went out, and nothing else.
pub returns-in_err-fates-clause-written : goal.returns-in_err-fates-clause-written
returns-in_err-fates-clause-written g c =
    let p = err_from_is_err_and c.from_residual-in_err-fates.result c.from_residual-in_err-fates.ensures.1 in
    let rest = map report_line c.args.entries.now ++ (total_line c.args.entries.now ∷ []) in
    let mid = g.W.Sink.holds c.put_line.new.sink in
    rw p.1 (begun_after (g.W.Sink.holds c.args.sink.now) mid mid (codes "report" ∷ []) rest c.in_ok-put_line.ensures.written (nothing_sent mid (text rest)))

-- The title went out, and a beginning of the report.
pub returns-in_err-write_fates-clause-written : goal.returns-in_err-write_fates-clause-written
returns-in_err-write_fates-clause-written g c =
    let p = err_from_is_err_and c.from_residual-in_err-write_fates.result c.from_residual-in_err-write_fates.ensures.1 in
    let entries = c.args.entries.now in
    let rest = map report_line entries ++ (total_line entries ∷ []) in
    let mid = g.W.Sink.holds c.put_line.new.sink in
    let new = g.W.Sink.holds c.write_fates.new.sink in
    let lines : report_lines entries c.deref.result.now ≡ rest = ap (λ all. report_lines entries all) (c.deref.ensures.value ∙ c.in_ok-fates.ensures.fates) ∙ same_report entries in
    let begun = subst (λ z. AppendsFront mid new (text z)) lines c.in_err-write_fates.ensures.written in
    rw p.1 (begun_after (g.W.Sink.holds c.args.sink.now) mid new (codes "report" ∷ []) rest c.in_ok-put_line.ensures.written begun)

-- All of it went out.
pub returns-clause-written : goal.returns-clause-written
returns-clause-written g c =
    let entries = c.args.entries.now in
    let rest = map report_line entries ++ (total_line entries ∷ []) in
    let mid = g.W.Sink.holds c.put_line.new.sink in
    let new = g.W.Sink.holds c.write_fates.new.sink in
    let lines : report_lines entries c.deref.result.now ≡ rest = ap (λ all. report_lines entries all) (c.deref.ensures.value ∙ c.in_ok-fates.ensures.fates) ∙ same_report entries in
    let added = subst (λ z. Appends mid new (text z)) lines c.in_ok-write_fates.ensures.written in
    sent_more (g.W.Sink.holds c.args.sink.now) mid new (codes "report" ∷ []) rest c.in_ok-put_line.ensures.written added
