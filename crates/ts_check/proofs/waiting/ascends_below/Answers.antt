use Rattle.std.proofs.Common.{refl, arith, inl, inr}
use Rattle.std.proofs.lemmas.Bool.{false≢true}
use Rattle.ts_check.proofs.Waits.{below_from, from_below, from_at, from_step}
use Rattle.ts_check.proofs.waiting.ascends_below.Goals as goal

pub returns-then-number-low : goal.returns-then-number-low
returns-then-number-low c = (
  λ e. absurd (false≢true e),
  λ ascends. absurd (
      let h = from_at c.loop-number.low c.args.n c.args.numbers.now c.loop-number.number-index c.loop-number-test.true in
      let at = h.0 (c.loop-number.invariant.1 (from_below 0 c.args.n c.args.numbers.now ascends (λ x ys e. omega arith))) in
      elim c.then-number-low.either [ inl low ↦ omega arith | inr high ↦ omega arith ]),
)

pub returns : goal.returns
returns c = (λ e. below_from 0 c.args.n c.args.numbers.now (c.loop-number.invariant.0 (from_step c.loop-number.low c.args.n c.args.numbers.now c.loop-number.number-index c.loop-number-test.false)), λ ascends. refl)
