use Rattle.std.proofs.Common.{◌≡◌}
use Rattle.std.proofs.lemmas.Result.{err_from_is_err_and, IfErr-weaker}
use Rattle.ts_tree.specs.Decoding.{FindsNoTree}
use Rattle.ts_tree.specs.declared.fault.TreeFault.TheVariants as fault
use Rattle.ts_tree.specs.Readers.{SpellsNoTree}
use Rattle.ts_tree.proofs.NoTree.{no_tree_ended, no_tree_line, no_tree_read}
use Rattle.ts_tree.proofs.Taken.{taken_more}
use Rattle.ts_tree.proofs.decoding.decode.Goals as goal

-- The line reader met a fault.
pub returns-in_err-advance-clause-refused : goal.returns-in_err-advance-clause-refused
returns-in_err-advance-clause-refused g c =
    let p = err_from_is_err_and c.from_residual.result c.from_residual.ensures.1 in
    rw (p.1, p.2) (no_tree_read c.args.lines.now c.loop.lines c.advance.new.self c.loop.reader c.in_err-advance.field-0.0 c.loop.invariant c.in_err-advance.ensures.answers)

-- The lines end too early.
pub returns-then-not-branch-clause-refused : goal.returns-then-not-branch-clause-refused
returns-then-not-branch-clause-refused g c =
    let ends = rw c.if-not-branch.true at c.in_ok-advance.ensures.answers in
    IfErr-weaker c.finish.result (λ e. (e ≡ fault.NotCanonical) × SpellsNoTree c.loop.reader) (FindsNoTree c.args.lines.now c.advance.new.self)
    (λ e none. no_tree_ended c.args.lines.now c.loop.lines c.advance.new.self c.loop.reader e c.loop.invariant ends none) c.finish.ensures.refused

-- No tree has the line there.
pub returns-in_err-line-clause-refused : goal.returns-in_err-line-clause-refused
returns-in_err-line-clause-refused g c =
    let p = err_from_is_err_and c.from_residual-in_err-line.result c.from_residual-in_err-line.ensures.1 in
    let gives = rw c.if-not-branch.false at c.in_ok-advance.ensures.answers in
    let taken = taken_more c.args.lines.now c.loop.lines c.advance.new.self c.loop.reader c.loop.invariant gives in
    let refused = rw c.line.ensures at c.in_err-line.ensures.refused in
    rw (p.1, p.2) (no_tree_line c.args.lines.now c.advance.new.self _ c.in_err-line.field-0.0 taken refused)

pub loop-preserved : goal.loop-preserved
loop-preserved g c =
    let gives = rw c.if-not-branch.false at c.in_ok-advance.ensures.answers in
    rw (c.in_ok-line.ensures.taken, c.line.ensures) (taken_more c.args.lines.now c.loop.lines c.advance.new.self c.loop.reader c.loop.invariant gives)

-- ---- the source's count of failures
