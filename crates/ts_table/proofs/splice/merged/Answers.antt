use Rattle.std.proofs.Common.{length, sum_by, ap, ◌∙◌, arith}
use Rattle.std.proofs.lemmas.List.Sums.{sum_by-cons}
use Rattle.ts_table.specs.declared.splice.Put.{Put}
use Rattle.ts_table.proofs.Splicing.{spliced_next}
use Rattle.ts_table.proofs.splice.merged.Goals as goal

pub loop-put-preserved : goal.loop-put-preserved
loop-put-preserved g c =
    let put = c.in-Some.put in
    let more = c.next.new.self.rest.items in
    let next = c.in-Some.ensures.steps.0 in
    let rows_put = ap (sum_by (λ (it : Put _). length it.rows)) next ∙ sum_by-cons (λ (it : Put _). length it.rows) put more in
    let long = ap length c.into_vec-rows.ensures in
    record {
      moved = cc (spliced_next c.loop-put.out.items c.loop-put.rest.items put more, next, c.in-Ok.ensures.items);
      room =
          (let a = c.loop-put.invariant.room in let b = c.move_before.ensures.room in let d = c.move_before.ensures.capacity in
          let f = c.in-Ok.ensures.len in let h = c.append.ensures.capacity in let k = c.into_vec-rows.result.ok.0 in omega arith);
    }
