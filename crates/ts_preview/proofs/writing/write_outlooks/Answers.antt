use Rattle.std.proofs.Common.{◌<◌, ◌∷◌, [], length, arith, refl}
use Rattle.std.proofs.lemmas.Result.{err_from_is_err_and}
use Rattle.ts_tree.proofs.Writing.{begun_item, wrote_item}
use Rattle.ts_preview.specs.Previews.{outlook_line, outlook_lines}
use Rattle.ts_preview.specs.declared.outlook.Outlook.{Outlook}
use Rattle.ts_preview.proofs.writing.write_outlooks.Goals as goal

pub loop-i-preserved : goal.loop-i-preserved
loop-i-preserved g c =
    let all = c.args.all.now in
    let within : c.loop-i.i < length all = omega arith in
    wrote_item (λ (o : Outlook). outlook_line c.args.form o ∷ []) (outlook_lines c.args.form) (λ o more. refl) all c.loop-i.i c.index-all-i.result within c.index-all-i.is
    (g.W.Sink.holds c.args.sink.now) (g.W.Sink.holds c.loop-i.sink) (g.W.Sink.holds c.write_outlook.new.sink) (outlook_lines c.args.form all) c.loop-i.invariant c.in_ok-write_outlook.ensures

pub returns-in_err-write_outlook : goal.returns-in_err-write_outlook
returns-in_err-write_outlook g c =
    let p = err_from_is_err_and c.from_residual.result c.from_residual.ensures.1 in
    let all = c.args.all.now in
    let within : c.loop-i.i < length all = omega arith in
    rw p.1
    (begun_item (λ (o : Outlook). outlook_line c.args.form o ∷ []) (outlook_lines c.args.form) (λ o more. refl) all c.loop-i.i c.index-all-i.result within c.index-all-i.is
    (g.W.Sink.holds c.args.sink.now) (g.W.Sink.holds c.loop-i.sink) (g.W.Sink.holds c.write_outlook.new.sink) (outlook_lines c.args.form all) c.loop-i.invariant c.in_err-write_outlook.ensures)
