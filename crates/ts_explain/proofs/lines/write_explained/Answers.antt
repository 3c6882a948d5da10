use Rattle.std.proofs.Common.{◌∷◌, ◌++◌, [], sym, subst}
use Rattle.std.proofs.lemmas.List.{append-nil}
use Rattle.std.proofs.lemmas.Result.{err_from_is_err_and}
use Rattle.std.specs.Io.KnownBytes.{Appends}
use Rattle.ts_text.specs.Sources.{AppendsFront, Writes}
use Rattle.ts_tree.proofs.Writing.{begun_first, writes_after}
use Rattle.ts_explain.proofs.lines.write_explained.Goals as goal
use Rattle.ts_explain.proofs.lines.write_explained.Goals.{then-explain+in_ok-write_line, else-explain}

pub returns-in_err-write_line : goal.returns-in_err-write_line
returns-in_err-write_line g c =
    let p = err_from_is_err_and c.from_residual.result c.from_residual.ensures.1 in
    let old = g.W.Sink.holds c.args.err.now in let new = g.W.Sink.holds c.write_line.new.sink in
    let sentence = c.args.sentence.now in
    rw (p.1, c.if-explain.true) (begun_first old new (sentence ∷ []) (c.args.line.now ∷ [])
    (subst (AppendsFront old new) (sym (append-nil (sentence ++ 10 ∷ []))) c.in_err-write_line.ensures.written))

pub returns : goal.returns
returns g c =
    let old = g.W.Sink.holds c.args.err.now in let new = g.W.Sink.holds c.write_line-2.new.sink in
    let sentence = c.args.sentence.now in let line = c.args.line.now in
    let last = subst (λ z. Writes (g.W.Sink.holds c.if-explain.err) new z c.write_line-2.result) (sym (append-nil (line ++ 10 ∷ []))) c.write_line-2.ensures.written in
    elim c.if-explain.branch [
      | then-explain+in_ok-write_line w ↦
          let mid = g.W.Sink.holds w.write_line.new.sink in
          let after = subst (λ s. Writes (g.W.Sink.holds s) new ((line ++ 10 ∷ []) ++ []) c.write_line-2.result) w.err-is last in
          rw w.if-explain.true (writes_after old mid new (sentence ∷ []) (line ∷ []) c.write_line-2.result
          (subst (Appends old mid) (sym (append-nil (sentence ++ 10 ∷ []))) w.in_ok-write_line.ensures.written) after)
      | else-explain w ↦
          rw w.if-explain.false (subst (λ s. Writes (g.W.Sink.holds s) new ((line ++ 10 ∷ []) ++ []) c.write_line-2.result) w.err-is last)
    ]
