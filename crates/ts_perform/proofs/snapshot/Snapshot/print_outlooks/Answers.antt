use Rattle.std.proofs.Common.{subst}
use Rattle.ts_model.specs.Texts.{text}
use Rattle.ts_text.specs.Sources.{AppendsFront}
use Rattle.ts_preview.specs.Outlooks.{AreOutlooks}
use Rattle.ts_perform.specs.Snapshots.{checkup_of}
use Rattle.ts_preview.specs.Previews.{preview_lines}
use Rattle.ts_perform.proofs.Printing.{preview_begun}
use Rattle.ts_perform.proofs.snapshot.Snapshot.print_outlooks.Goals as goal

-- A beginning of the preview went out.
pub returns : goal.returns
returns g c =
    let s = c.args.self.now in let plan = c.args.plan.now in let all = c.in_ok-all.all.items in
    let old = g.O.Sink.holds c.args.out.now in let new = g.O.Sink.holds c.write.new.sink in
    let each = subst (λ entries. AreOutlooks s.archive s.first s.second entries all) c.as_slice-entries.ensures c.in_ok-all.ensures in
    let begun = subst (λ l. AppendsFront old new (text (preview_lines c.args.form l))) c.deref.ensures.value c.in-Err.ensures in
    rw c.on_output.ensures (preview_begun (checkup_of s plan) c.args.form all old new c.in-Err.fault c.requires each begun)
