use Rattle.std.proofs.Common.{sym, ap, ◌∙◌, arith, length}
use Rattle.std.proofs.lemmas.Option.{slice_get_within}
use Rattle.std.proofs.lemmas.Bool.{false≢true}
use Rattle.ts_check.proofs.Scans.{item_at, wrong_here, IsScanned-skip, IsScanned-take}
use Rattle.ts_check.proofs.census.fill.Goals as goal
use Rattle.ts_check.proofs.census.fill.Goals.{in-Some+else-not-is_unmet, in_default}

pub returns-then-not-is_unmet-clause-wrong : goal.returns-then-not-is_unmet-clause-wrong
returns-then-not-is_unmet-clause-wrong c =
    let plan = c.args.plan.now in
    let at = item_at c.as_slice-action-items.result.now plan.actions c.loop-i.i c.action-item.result c.as_slice-action-items.ensures c.loop-i-test.true c.action-item.is in (
      slice_get_within plan.actions c.loop-i.i c.action-item.result at,
      (
        wrong_here plan c.args.role c.loop-i.i c.in-Some.entry c.loop-i.numbers.items c.action-item.result c.loop-i.invariant at c.in-Some.ensures.some
            (λ unmet. false≢true (sym c.if-not-is_unmet.true ∙ c.is_unmet.ensures.1 (rw (c.as_slice-entries.ensures, c.deref.ensures.value) unmet))),
        c.loop-i.invariant.right,
      ),
    )

pub loop-i-preserved : goal.loop-i-preserved
loop-i-preserved c =
    let plan = c.args.plan.now in
    let at = item_at c.as_slice-action-items.result.now plan.actions c.loop-i.i c.action-item.result c.as_slice-action-items.ensures c.loop-i-test.true c.action-item.is in
    elim c.match-entry_of.branch [
      | in-Some+else-not-is_unmet w ↦
          rw w.numbers-is (IsScanned-take plan c.args.role c.loop-i.i w.in-Some.entry c.loop-i.numbers.items c.action-item.result c.loop-i.invariant at w.in-Some.ensures.some
          (rw (c.as_slice-entries.ensures, w.deref.ensures.value) at (w.is_unmet.ensures.0 w.if-not-is_unmet.false)) (let h = slice_get_within plan.actions c.loop-i.i c.action-item.result at in omega arith))
      | in_default w ↦ rw w.numbers-is (IsScanned-skip plan c.args.role c.loop-i.i c.loop-i.numbers.items c.action-item.result c.loop-i.invariant at w.in_default.ensures.none)
    ]

pub returns-clause-right : goal.returns-clause-right
returns-clause-right c = λ k h. c.loop-i.invariant.right k (let e = ap length c.as_slice-action-items.ensures in omega arith)
