use Rattle.std.proofs.Common.{◌+◌, arith, rules, length, ap}
use Rattle.ts_check.proofs.Placing.{all_places, more_places}
use Rattle.ts_check.proofs.standing.places.Goals as goal

pub loop-from-preserved : goal.loop-from-preserved
loop-from-preserved g c =
    let first = c.args.first.now in let second = c.args.second.now in let plan = c.args.plan.now in let from = c.loop-from.from in
    record {
      found = rw c.in_ok-append.ensures.items (more_places first second plan 0 from (from + c.min.result) c.loop-from.staged.items c.in_ok-more.more.items c.loop-from.invariant.found c.in_ok-more.ensures);
      within = search rules;
    }

pub returns : goal.returns
returns g c =
    let test = c.loop-from-test.false in let within = c.loop-from.invariant.within in
    all_places c.args.first.now c.args.second.now c.args.plan.now c.loop-from.from c.loop-from.staged.items (let same = ap length c.as_slice-count.ensures in omega arith) c.loop-from.invariant.found
