use Rattle.std.proofs.Common.{arith}
use Rattle.ts_check.proofs.Rowed.{lies_nowhere, row_after, row_before, row_here}
use Rattle.ts_check.proofs.order.row_of.Goals as goal

pub loop-low-preserved-in-Less : goal.loop-low-preserved-in-Less
loop-low-preserved-in-Less c = record {
  within = c.loop-low.invariant.within;
  lies = λ k at. (
    omega (arith, row_after _ c.requires.ascending _ _ _ (omega (arith, c.place_within-middle.ensures.below, c.loop-low.invariant.within)) c.in-Less.ensures k at),
    (c.loop-low.invariant.lies k at).1,
  );
}

pub returns-in-Equal : goal.returns-in-Equal
returns-in-Equal c = row_here c.args.rows.now c.place_within-middle.result _ c.args.p.now (omega (arith, c.place_within-middle.ensures.below, c.loop-low.invariant.within)) c.in-Equal.ensures

pub loop-low-preserved : goal.loop-low-preserved
loop-low-preserved c = record {
  within = omega (arith, c.place_within-middle.ensures.below, c.loop-low.invariant.within);
  lies = λ k at. (
    (c.loop-low.invariant.lies k at).0,
    row_before _ c.requires.ascending _ _ _ (omega (arith, c.place_within-middle.ensures.below, c.loop-low.invariant.within)) c.in-Greater.ensures k at,
  );
}

pub returns : goal.returns
returns c = lies_nowhere c.args.rows.now c.args.p.now c.loop-low.low c.loop-low.high (omega (arith, c.loop-low-test.false)) c.loop-low.invariant.lies
