use Rattle.std.proofs.Common.{arith, sym, ◌∙◌}
use Rattle.ts_special.proofs.Cuts.{cut_at, none_is_utf8, not_read, one_less, was_read}
use Rattle.ts_special.proofs.naming.cut.Goals as goal
use Rattle.ts_special.proofs.naming.cut.Goals.{else-loop-end-test, then-loop-end-test+then-is_ok}

pub loop-end-preserved : goal.loop-end-preserved
loop-end-preserved c =
    let kept = c.loop-end.invariant in (
      omega (arith, kept.0),
      omega (arith, kept.1),
      one_less c.args.text.now c.loop-end.end c.loop-end-test.true (not_read c.from_utf8.result _ _ _ (sym c.is_ok.ensures.value ∙ c.if-is_ok.false) c.from_utf8.ensures.cases) kept.2,
    )

pub returns : goal.returns
returns c =
    let kept = c.loop-end.invariant in
    cut_at c.args.text.now c.loop-end.end kept.0 kept.1 kept.2 (elim c.loop-end-test.branch [
      | else-loop-end-test w ↦ none_is_utf8 c.args.text.now c.loop-end.end w.loop-end-test.false
      | then-loop-end-test+then-is_ok w ↦ was_read w.from_utf8.result _ _ _ (sym w.is_ok.ensures.value ∙ w.if-is_ok.true) w.from_utf8.ensures.cases
    ])
