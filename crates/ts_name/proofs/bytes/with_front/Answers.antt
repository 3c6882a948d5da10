use Rattle.std.proofs.Common.{Some, ◌≡◌, ◌++◌, drop, length, sym, ap, ◌∙◌, append_assoc, eqb-true, eq-eqb}
use Rattle.std.proofs.lemmas.Slice.Eq.{strip_suffix_is}
use Rattle.std.proofs.lemmas.List.{take-append-drop}
use Rattle.std.proofs.Math.Seq.{drop-append_seam}
use Rattle.ts_name.proofs.bytes.with_front.Goals as goal

pub returns-clause-start : goal.returns-clause-start
returns-clause-start c =
    let split = c.in_ok-before.ensures.cases in
    let cut = strip_suffix_is (λ x y. (eqb-true x y, eq-eqb x y)) c.in_ok-before.before.now c.args.front.now (Some c.in_ok-above.above) c.in_ok-above.ensures.cases in
    let whole : c.args.bytes.now ≡ c.in_ok-above.above.now ++ (c.args.front.now ++ drop c.args.start c.args.bytes.now) =
    sym (take-append-drop c.args.start c.args.bytes.now) ∙ ap (λ z. z ++ drop c.args.start c.args.bytes.now) (sym split.1 ∙ cut) ∙ append_assoc c.in_ok-above.above.now c.args.front.now (drop c.args.start c.args.bytes.now) in
    ap (drop (length c.in_ok-above.above.now)) whole ∙ drop-append_seam c.in_ok-above.above.now (c.args.front.now ++ drop c.args.start c.args.bytes.now)
