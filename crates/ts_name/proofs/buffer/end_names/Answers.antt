use Rattle.std.proofs.Common.{arith, ◌==◌, cond, get_or, set, ap, length, ◌<◌, ◌∙◌}
use Rattle.std.proofs.lemmas.List.{get_or_default}
use Rattle.std.proofs.lemmas.List.Edits.{map_over_more}
use Rattle.ts_name.proofs.buffer.end_names.Goals as goal

pub loop-b-preserved : goal.loop-b-preserved
loop-b-preserved c =
    let old = c.args.bytes.now.items in
    let items = c.loop-b.b-items in
    let i = c.loop-b.b-index in
    let inside : i < length items = omega arith in
    let within : i < length old = omega (arith, c.deref_mut-b-items.ensures.len, ap length c.deref_mut-b-items.ensures.value) in
    ap (set items i) c.zero_for_slash.ensures ∙ map_over_more (λ b. cond (b == 47) 0 b) old items i (get_or items i 0) within c.loop-b.invariant (get_or_default items i _ _ inside)
