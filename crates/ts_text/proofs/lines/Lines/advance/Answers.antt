use Rattle.std.proofs.Common.{◌≡◌, ◌+◌, ◌-◌, ◌∷◌, [], ◌++◌, take, drop, ap, sym, ◌∙◌, subst, arith}
use Rattle.std.specs.Io.KnownBytes.{Keeps, Consumes, prepend_known}
use Rattle.ts_text.specs.Lines.{IsLine}
use Rattle.ts_text.proofs.Search.{gives_front}
use Rattle.ts_text.proofs.lines.Lines.advance.Goals as goal

pub returns-in-Ok-Some-clause-answers : goal.returns-in-Ok-Some-clause-answers
returns-in-Ok-Some-clause-answers g c =
    let n = c.in-Ok-Some.length in
    let window = c.find_line.new.window in
    let after = g.S.Source.holds c.find_line.new.source in
    let found = rw c.in-Ok-Some.field-0-is at c.in-Ok-Some.ensures.found in
    let size : (n + 1) - 1 ≡ n = omega arith in
    let before = ap (λ v. v.left) c.self.view_is in
    let kept = subst (λ l. Keeps l (prepend_known window after)) (ap (λ l. prepend_known l (g.S.Source.holds c.self.inside.source)) c.drop_front.ensures ∙ before) c.in-Ok-Some.ensures.kept in
    record {
      going = (ap (λ v. v.state) (sym c.self.view_is) ∙ c.in-Going.is, c.in-Going.is);
      line = subst (λ m. IsLine (take m window)) (sym size) found.2;
      bytes = subst (λ m. Consumes c.args.self.now.left (prepend_known (drop (n + 1) window) after) (take m window ++ 10 ∷ [])) (sym size) (gives_front c.args.self.now.left after window n found.0 found.1 kept);
      failures = c.in-Ok-Some.ensures.failures ∙ ap (λ v. v.failures) c.self.view_is;
    }
