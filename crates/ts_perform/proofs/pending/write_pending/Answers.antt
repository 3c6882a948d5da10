use Rattle.std.proofs.Common.{◌≡◌, ◌++◌, ◌∙◌, ap, sym, subst}
use Rattle.ts_explain.specs.declared.subject.Subject.TheVariants.{First, Second}
use Rattle.ts_text.specs.Sources.{AppendsFront}
use Rattle.ts_model.proofs.Lines.{text_append}
use Rattle.ts_model.specs.Texts.{text}
use Rattle.ts_perform.specs.Pending.{pending_line}
use Rattle.ts_perform.proofs.Reported.{writes_begun}
use Rattle.ts_perform.proofs.pending.write_pending.Goals as goal

pub returns : goal.returns
returns g c =
    let old = g.E.Sink.holds c.args.err.now in let new = g.E.Sink.holds c.write_all.new.sink in
    let first = pending_line c.args.job.now First c.args.first in let second = pending_line c.args.job.now Second c.args.second in
    let bytes : c.deref.result.now ≡ text (first ++ second) =
    c.deref.ensures.value ∙ c.in_ok-push_line-2.ensures ∙ ap (λ z. z ++ text second) (c.in_ok-push_line.ensures ∙ ap (λ z. z ++ text first) c.new-lines.ensures.items)
    ∙ sym (text_append first second) in
    record { begun = subst (AppendsFront old new) bytes (writes_begun old new c.deref.result.now c.write_all.result c.write_all.ensures.written) }
