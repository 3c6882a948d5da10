use Rattle.std.proofs.Common.{◌≡◌, ◌≢◌, ⊎_elim, Some, slice_get, ap, ◌∙◌, arith}
use Rattle.std.proofs.lemmas.Bool.{cases_eq}
use Rattle.std.proofs.lemmas.Option.{slice_get-get_or}
use Rattle.ts_exec.specs.declared.outcome.ActionResult.TheVariants.{Done}
use Rattle.ts_through.proofs.put.all_done.Goals as goal

pub loop-result-preserved : goal.loop-result-preserved
loop-result-preserved c = λ m less.
    let results = c.args.results.now in let n = c.loop-result.result-index in
    ⊎_elim (λ (same : m ≡ n). ap (λ z. slice_get results z) same ∙ slice_get-get_or results n Done c.loop-result-test.true ∙ ap Some c.in-Done.is)
    (λ (other : m ≢ n). c.loop-result.invariant m (omega arith)) (cases_eq m n)

pub unreachable-requires-in-Blocked : goal.unreachable-requires-in-Blocked
unreachable-requires-in-Blocked c =
    let results = c.args.results.now in let n = c.loop-result.result-index in
    let earlier = c.requires.blocked n c.in-Blocked.field-0 (slice_get-get_or results n Done c.loop-result-test.true ∙ ap Some c.in-Blocked.is) in
    earlier.1 (c.loop-result.invariant c.in-Blocked.field-0 earlier.0)

pub unreachable-requires-in-Left : goal.unreachable-requires-in-Left
unreachable-requires-in-Left c =
    let results = c.args.results.now in let n = c.loop-result.result-index in
    c.requires.left n (slice_get-get_or results n Done c.loop-result-test.true ∙ ap Some c.in-Left.is)
