use Rattle.std.proofs.lemmas.Bool.{false≢true}
use Rattle.std.proofs.Common.{refl}
use Rattle.ts_name.proofs.Buffers.{GoodSoFar-none, GoodSoFar-more, GoodSoFar-bad, GoodSoFar-all, yes, no_answer, shorter}
use Rattle.ts_name.proofs.buffer.has_good_names.Goals as goal

pub loop-name-init : goal.loop-name-init
loop-name-init c = GoodSoFar-none _ c.requires

pub returns-then-not-is_name : goal.returns-then-not-is_name
returns-then-not-is_name c =
    let found = c.in-Some.ensures in
    no_answer (GoodSoFar-bad _ _ _ _ c.loop-name.invariant found.0 found.1 (λ k. false≢true (c.if-not-is_name.ensures.1 k)))

pub loop-name-smaller : goal.loop-name-smaller
loop-name-smaller c = let found = c.in-Some.ensures in shorter _ _ _ found.0

pub loop-name-preserved : goal.loop-name-preserved
loop-name-preserved c =
    let found = c.in-Some.ensures in
    GoodSoFar-more _ _ _ _ c.loop-name.invariant found.0 found.1 (c.if-not-is_name.ensures.0 refl)

pub returns : goal.returns
returns c = yes (GoodSoFar-all _ _ c.loop-name.invariant c.in_default.ensures)
