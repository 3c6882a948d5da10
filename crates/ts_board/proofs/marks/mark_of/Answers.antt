use Rattle.std.proofs.Common.{◌∙◌, sym, ap, subst}
use Rattle.ts_model.specs.Runs.{bare_directory}
use Rattle.ts_model.specs.Sync.{treatment}
use Rattle.ts_model.specs.Trees.{at, sub}
use Rattle.ts_model.specs.declared.plan.Side.TheVariants as side
use Rattle.ts_model.specs.declared.plan.Treatment.TheVariants.{Agreed, Copied, NewDirectory}
use Rattle.ts_board.specs.Edits.{IsPart}
use Rattle.ts_board.proofs.Edits.{edit_moved, gives_mark}
use Rattle.ts_board.proofs.marks.mark_of.Goals as goal
use Rattle.ts_board.proofs.marks.mark_of.Goals.{in-NewDirectory+in_ok-part-in-NewDirectory, in-Agreed+in_ok-part-in-Agreed, in-Copied-First+in_ok-part-in-Copied-First, in-Copied-Second+in_ok-part-in-Copied-Second}

pub returns : goal.returns
returns c = elim c.match-treatment.branch [
  | in-NewDirectory+in_ok-part-in-NewDirectory w ↦
      gives_mark (at c.args.first.now) (at c.args.second.now) (treatment c.args.entry.now.reason) NewDirectory c.args.entry.now.path _ (sym c.treatment.ensures ∙ w.in-NewDirectory.is)
      (edit_moved c.in_ok-path.path c.args.entry.now.path (λ p. bare_directory) c.match-treatment.part c.in_ok-path.ensures.value
      (subst (λ part. IsPart c.in_ok-path.path bare_directory part) (sym w.part-is) w.in_ok-part-in-NewDirectory.ensures))
  | in-Agreed+in_ok-part-in-Agreed w ↦
      gives_mark (at c.args.first.now) (at c.args.second.now) (treatment c.args.entry.now.reason) Agreed c.args.entry.now.path _ (sym c.treatment.ensures ∙ w.in-Agreed.is)
      (edit_moved c.in_ok-path.path c.args.entry.now.path (λ p. sub (at c.args.first.now) p) c.match-treatment.part c.in_ok-path.ensures.value
      (subst (λ part. IsPart c.in_ok-path.path (sub (at c.args.first.now) c.in_ok-path.path) part) (sym w.part-is) w.in_ok-part-in-Agreed.ensures))
  | in-Copied-First+in_ok-part-in-Copied-First w ↦
      gives_mark (at c.args.first.now) (at c.args.second.now) (treatment c.args.entry.now.reason) (Copied side.First) c.args.entry.now.path _
      (sym c.treatment.ensures ∙ w.in-Copied-First.is ∙ ap Copied w.in-Copied-First.field-0-is)
      (edit_moved c.in_ok-path.path c.args.entry.now.path (λ p. sub (at c.args.first.now) p) c.match-treatment.part c.in_ok-path.ensures.value
      (subst (λ part. IsPart c.in_ok-path.path (sub (at c.args.first.now) c.in_ok-path.path) part) (sym w.part-is) w.in_ok-part-in-Copied-First.ensures))
  | in-Copied-Second+in_ok-part-in-Copied-Second w ↦
      gives_mark (at c.args.first.now) (at c.args.second.now) (treatment c.args.entry.now.reason) (Copied side.Second) c.args.entry.now.path _
      (sym c.treatment.ensures ∙ w.in-Copied-Second.is ∙ ap Copied w.in-Copied-Second.field-0-is)
      (edit_moved c.in_ok-path.path c.args.entry.now.path (λ p. sub (at c.args.second.now) p) c.match-treatment.part c.in_ok-path.ensures.value
      (subst (λ part. IsPart c.in_ok-path.path (sub (at c.args.second.now) c.in_ok-path.path) part) (sym w.part-is) w.in_ok-part-in-Copied-Second.ensures))
]
