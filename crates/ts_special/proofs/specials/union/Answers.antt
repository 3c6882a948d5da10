use Rattle.std.proofs.Common.{◌∙◌, ap, refl, sym, ◌++◌}
use Rattle.ts_special.specs.Specials.{joined, others}
use Rattle.ts_special.proofs.Joining.{all_passed, all_taken, other_taken, passed, taken}
use Rattle.ts_special.proofs.specials.union.Goals as goal
use Rattle.ts_special.proofs.specials.union.Goals.{then-not-contains+in_ok-push-2, else-not-contains}

pub loop-path-init : goal.loop-path-init
loop-path-init c = rw c.new-paths.ensures.items refl

pub loop-path-preserved : goal.loop-path-preserved
loop-path-preserved c =
    let l = c.loop-path in let paths = c.as_slice-path-items.result.now in
    rw c.in_ok-push.ensures.items (taken l.paths.items _ paths paths l.path-index c.loop-path-test.true c.path-item.is l.invariant)

pub loop-path-2-init : goal.loop-path-2-init
loop-path-2-init c =
    let l = c.loop-path in let paths = c.as_slice-path-items.result.now in
    ap (λ z. z ++ others c.args.first.now c.as_slice-path-items-2.result.now) (all_taken l.paths.items paths paths l.path-index c.loop-path-test.false l.invariant ∙ c.as_slice-path-items.ensures)

pub loop-path-2-preserved : goal.loop-path-2-preserved
loop-path-2-preserved c =
    let l = c.loop-path-2 in let paths = c.as_slice-path-items-2.result.now in let first = c.args.first.now in
    elim c.if-not-contains.branch [
      | then-not-contains+in_ok-push-2 w ↦
          rw w.paths-is (rw w.in_ok-push-2.ensures.items (other_taken l.paths.items _ first paths (joined first paths) l.path-index c.loop-path-2-test.true c.path-item-in-loop-path-2.is
          (sym c.contains.ensures ∙ w.if-not-contains.true) l.invariant))
      | else-not-contains w ↦
          rw w.paths-is (passed l.paths.items c.path-item-in-loop-path-2.result first paths (joined first paths) l.path-index c.loop-path-2-test.true c.path-item-in-loop-path-2.is
          (sym c.contains.ensures ∙ w.if-not-contains.false) l.invariant)
    ]

pub returns : goal.returns
returns c =
    let l = c.loop-path-2 in let paths = c.as_slice-path-items-2.result.now in let first = c.args.first.now in
    all_passed l.paths.items first paths (joined first paths) l.path-index c.loop-path-2-test.false l.invariant ∙ ap (joined first) c.as_slice-path-items-2.ensures
