use Rattle.std.proofs.Common.{◌≡◌, sym, ap, ◌∙◌, arith, length}
use borrow.Author.Tests.{ltb-true}
use Rattle.std.proofs.lemmas.Option.{slice_get_within}
use Rattle.ts_check.proofs.Scans.{item_at}
use Rattle.ts_check.proofs.Waits.{search_tells, ascending_preds, contained}
use Rattle.ts_check.proofs.waiting.waits.Goals as goal

pub returns-then-i-actions : goal.returns-then-i-actions
returns-then-i-actions c =
    let plan = c.args.plan.now in
    let at = item_at c.as_slice-actions.result.now plan.actions c.args.i c.index-actions-i.result c.as_slice-actions.ensures c.if-i-actions.true c.index-actions-i.is in
    let same : c.preds.result.now ≡ c.index-actions-i.result.preds = c.preds.ensures in
    let tells = search_tells c.args.i c.index-actions-i.result.preds c.args.j c.binary_search.result (ascending_preds plan c.requires c.args.i c.index-actions-i.result at) (rw same at c.binary_search.ensures.position) in
    (λ yes_ok. (c.index-actions-i.result, at, tells.0 (sym c.is_ok.ensures.value ∙ yes_ok)), λ waits. c.is_ok.ensures.value ∙ tells.1 (contained plan c.args.i c.args.j c.index-actions-i.result at waits))

pub returns-else-i-actions : goal.returns-else-i-actions
returns-else-i-actions c = (λ less. absurd (let g = ltb-true _ _ less in let h = c.if-i-actions.false in omega arith), λ waits. absurd (let h = slice_get_within c.args.plan.now.actions c.args.i waits.0 waits.1 in let e = ap length c.as_slice-actions.ensures in let g = c.if-i-actions.false in omega arith))
