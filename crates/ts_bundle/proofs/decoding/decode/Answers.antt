use Rattle.std.proofs.lemmas.Result.{err_from_is_err_and, IfErr-weaker}
use Rattle.ts_bundle.specs.Bundles.{SpellsNoBundle}
use Rattle.ts_bundle.specs.Decoding.{FindsNoBundle}
use Rattle.ts_bundle.specs.Faults.{Refuses}
use Rattle.ts_tree.proofs.Taken.{taken_more}
use Rattle.ts_bundle.proofs.NoBundle.{no_bundle_ended, no_bundle_line, no_bundle_read}
use Rattle.ts_bundle.proofs.decoding.decode.Goals as goal

-- The reader has taken one line more.
pub loop-preserved : goal.loop-preserved
loop-preserved g c =
    let gives = rw c.if-not-branch.false at c.in_ok-advance.ensures.answers in
    let same = rw c.line.ensures at c.in_ok-reader.ensures.taken in
    rw same (taken_more c.args.lines.now c.loop.lines c.advance.new.self c.loop.reader c.loop.invariant gives)

-- The line reader met a fault.
pub returns-in_err-advance-clause-refused : goal.returns-in_err-advance-clause-refused
returns-in_err-advance-clause-refused g c =
    let p = err_from_is_err_and c.from_residual.result c.from_residual.ensures.1 in
    rw (p.1, p.2) (no_bundle_read c.args.lines.now c.loop.lines c.advance.new.self c.loop.reader c.in_err-advance.field-0.0 c.loop.invariant c.in_err-advance.ensures.answers)

-- The lines end too early.
pub returns-then-not-branch-clause-refused : goal.returns-then-not-branch-clause-refused
returns-then-not-branch-clause-refused g c =
    let ends = rw c.if-not-branch.true at c.in_ok-advance.ensures.answers in
    IfErr-weaker c.finish.result (Refuses (SpellsNoBundle c.loop.reader)) (FindsNoBundle c.args.lines.now c.advance.new.self)
    (λ e none. no_bundle_ended c.args.lines.now c.loop.lines c.advance.new.self c.loop.reader e c.loop.invariant ends none) c.finish.ensures.refused

-- No bundle has the line there.
pub returns-in_err-reader-clause-refused : goal.returns-in_err-reader-clause-refused
returns-in_err-reader-clause-refused g c =
    let p = err_from_is_err_and c.from_residual-in_err-reader.result c.from_residual-in_err-reader.ensures.1 in
    let gives = rw c.if-not-branch.false at c.in_ok-advance.ensures.answers in
    let taken = taken_more c.args.lines.now c.loop.lines c.advance.new.self c.loop.reader c.loop.invariant gives in
    let refused = rw c.line.ensures at c.in_err-reader.ensures.refused in
    rw (p.1, p.2) (no_bundle_line c.args.lines.now c.advance.new.self _ c.in_err-reader.field-0.0 taken refused)
