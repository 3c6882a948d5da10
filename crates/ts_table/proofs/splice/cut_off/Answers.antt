use Rattle.std.proofs.Common.{[], ◌∷◌, ◌++◌, sym, ap, ◌∙◌, append_assoc, arith}
use Rattle.ts_table.proofs.splice.cut_off.Goals as goal

pub loop-rows-preserved : goal.loop-rows-preserved
loop-rows-preserved g c =
    let kept = c.pop.new.self.items in
    let rest = c.loop-rows.rest.items in
    let long = c.len-in-loop-rows.ensures in
    let below = c.loop-rows-test.true in
    let fewer = c.in-Some.ensures.cases in
    let longer = c.push_front_reserved.ensures.len in
    record {
      whole =
          ap (λ z. kept ++ z) c.push_front_reserved.ensures.items ∙ sym (append_assoc kept (c.in-Some.row ∷ []) rest)
          ∙ ap (λ z. z ++ rest) (sym c.in-Some.ensures.items) ∙ c.loop-rows.invariant.whole;
      count = (let a = c.loop-rows.invariant.count in omega arith);
      more = omega arith;
      room = (let a = c.loop-rows.invariant.room in let b = c.push_front_reserved.ensures.capacity in omega arith);
      capacity = c.pop.ensures.capacity ∙ c.loop-rows.invariant.capacity;
    }
