use Rattle.std.proofs.Common.{◌+◌, ◌∷◌, drop, sym, subst}
use Rattle.ts_table.specs.Splits.{AreSeparate}
use Rattle.ts_table.proofs.Separate.{behind_index, separate_cons}
use Rattle.ts_table.proofs.frame.are_separate.Goals as goal

pub loop-path-preserved : goal.loop-path-preserved
loop-path-preserved c =
    let i = c.loop-path.path-index in
    let last = c.loop-path.last.now in
    let path = c.path-item.result in
    let rest = c.in-Some.rest.now in
    let behind = behind_index rest i path c.loop-path-test.true c.path-item.is in
    let after = c.follows.ensures.0 c.if-not-follows.false in
    record {
      there = λ h. (let more : AreSeparate (last ∷ path ∷ drop (i + 1) rest) = subst (λ z. AreSeparate (last ∷ z)) behind (c.loop-path.invariant.there h) in more.1);
      back = λ h. c.loop-path.invariant.back (subst (λ z. AreSeparate (last ∷ z)) (sym behind) (separate_cons last path (drop (i + 1) rest) after h));
    }
