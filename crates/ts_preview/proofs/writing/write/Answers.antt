use Rattle.std.proofs.Common.{◌∷◌, ◌++◌, [], subst}
use Rattle.std.proofs.lemmas.Result.{err_from_is_err_and}
use Rattle.ts_model.specs.Texts.{text}
use Rattle.ts_text.specs.Sources.{Writes}
use Rattle.ts_tree.proofs.Writing.{begun_after, begun_first, writes_after}
use Rattle.ts_preview.specs.Previews.{head_line, outlook_lines, total_line}
use Rattle.ts_preview.specs.Totals.{totals_of}
use Rattle.ts_preview.proofs.writing.write.Goals as goal

-- A beginning of the first line went out.
pub returns-in_err-write_head : goal.returns-in_err-write_head
returns-in_err-write_head g c =
    let p = err_from_is_err_and c.from_residual.result c.from_residual.ensures.1 in
    let form = c.args.form in let all = c.args.all.now in
    rw p.1 (begun_first (g.W.Sink.holds c.args.sink.now) (g.W.Sink.holds c.write_head.new.sink) (head_line form ∷ []) (outlook_lines form all ++ total_line form (totals_of all) ∷ []) c.in_err-write_head.ensures)

-- It went out, and a beginning of the entries' lines.
pub returns-in_err-write_outlooks : goal.returns-in_err-write_outlooks
returns-in_err-write_outlooks g c =
    let p = err_from_is_err_and c.from_residual-in_err-write_outlooks.result c.from_residual-in_err-write_outlooks.ensures.1 in
    let form = c.args.form in let all = c.args.all.now in
    let mid = g.W.Sink.holds c.write_head.new.sink in
    let new = g.W.Sink.holds c.write_outlooks.new.sink in
    rw p.1 (begun_after (g.W.Sink.holds c.args.sink.now) mid new (head_line form ∷ []) (outlook_lines form all ++ total_line form (totals_of all) ∷ []) c.in_ok-write_head.ensures
    (begun_first mid new (outlook_lines form all) (total_line form (totals_of all) ∷ []) c.in_err-write_outlooks.ensures))

-- Both went out, and the totals, or a beginning of them.
pub returns : goal.returns
returns g c =
    let form = c.args.form in let all = c.args.all.now in
    let first = g.W.Sink.holds c.write_head.new.sink in
    let mid = g.W.Sink.holds c.write_outlooks.new.sink in
    let new = g.W.Sink.holds c.write_total.new.sink in
    let last = subst (λ t. Writes mid new (text (total_line form t ∷ [])) c.write_total.result) c.count.ensures c.write_total.ensures in
    writes_after (g.W.Sink.holds c.args.sink.now) first new (head_line form ∷ []) (outlook_lines form all ++ total_line form (totals_of all) ∷ []) c.write_total.result c.in_ok-write_head.ensures
    (writes_after first mid new (outlook_lines form all) (total_line form (totals_of all) ∷ []) c.write_total.result c.in_ok-write_outlooks.ensures last)
