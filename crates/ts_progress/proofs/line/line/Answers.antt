use Rattle.std.proofs.Common.{◌∙◌, ◌++◌, ap, sym, subst, take}
use Rattle.ts_progress.specs.Lines.{line_text}
use Rattle.ts_progress.proofs.Printable.{Fine, beginning, fine_line}
use Rattle.ts_progress.proofs.line.line.Goals as goal

pub returns-clause-printable : goal.returns-clause-printable
returns-clause-printable c =
    let s = c.args.standing in
    subst Fine (sym (c.truncate.ensures.items ∙ ap (take c.args.columns) (c.in_ok-push_line.ensures ∙ ap (λ z. z ++ line_text s) c.new-line.ensures.items)))
    (beginning c.args.columns (line_text s) (fine_line s c.fits.ensures c.fits-2.ensures c.fits-3.ensures c.fits-4.ensures))
