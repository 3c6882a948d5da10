use Rattle.std.proofs.Common.{sym, ap, ◌∙◌, length, arith}
use Rattle.ts_check.proofs.Scans.{item_at}
use Rattle.ts_check.proofs.Placing.{stands_again, IsPlaced-skip, IsPlaced-put, some_of, none_of, finish_placing, at_most_one}
use Rattle.ts_check.proofs.standing.by_map.Goals as goal
use Rattle.ts_check.proofs.standing.by_map.Goals.{in-Some+in_ok-insert+else-is_some, in_default}

pub returns-then-is_some-clause-wrong : goal.returns-then-is_some-clause-wrong
returns-then-is_some-clause-wrong c =
    let plan = c.args.plan.now in
    let at = item_at c.as_slice-actions.result.now plan.actions c.loop-i.i c.index-actions-i.result c.as_slice-actions.ensures c.loop-i-test.true c.index-actions-i.is in
    let old = some_of c.in_ok-insert.field-0 (sym c.is_some.ensures ∙ c.if-is_some.true) in
    stands_again c.args.first.now c.args.second.now c.requires.first c.requires.second plan c.loop-i.i old.0 c.loop-i.map c.in-Some.place c.index-actions-i.result at c.in-Some.ensures.some
    (sym c.in_ok-insert.ensures.old ∙ old.1) c.loop-i.invariant

pub loop-i-preserved : goal.loop-i-preserved
loop-i-preserved c =
    let plan = c.args.plan.now in
    let at = item_at c.as_slice-actions.result.now plan.actions c.loop-i.i c.index-actions-i.result c.as_slice-actions.ensures c.loop-i-test.true c.index-actions-i.is in
    elim c.match-place_of.branch [
      | in-Some+in_ok-insert+else-is_some w ↦
          rw w.map-is (IsPlaced-put c.args.first.now c.args.second.now c.requires.first c.requires.second plan c.loop-i.i c.loop-i.map w.insert.new.self w.in-Some.place c.index-actions-i.result at w.in-Some.ensures.some
          (sym w.in_ok-insert.ensures.old ∙ none_of w.in_ok-insert.field-0 (sym w.is_some.ensures ∙ w.if-is_some.false)) w.in_ok-insert.ensures.updates (at_most_one _ _ _ w.in_ok-insert.ensures.len) c.loop-i.invariant)
      | in_default w ↦
          rw w.map-is (IsPlaced-skip c.args.first.now c.args.second.now c.requires.first c.requires.second plan c.loop-i.i c.loop-i.map c.index-actions-i.result c.requires.lawful at w.in_default.ensures.none c.loop-i.invariant)
    ]

pub returns-clause-staged : goal.returns-clause-staged
returns-clause-staged c = finish_placing c.args.first.now c.args.second.now c.args.plan.now c.loop-i.i c.loop-i.map (let e = ap length c.as_slice-actions.ensures in let g = c.loop-i-test.false in omega arith) c.loop-i.invariant

pub returns-clause-few : goal.returns-clause-few
returns-clause-few c = let h = c.loop-i.invariant.few in let e = ap length c.as_slice-actions.ensures in omega arith
