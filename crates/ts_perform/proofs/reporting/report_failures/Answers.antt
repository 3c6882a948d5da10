use Rattle.std.proofs.Common.{◌≡◌, ◌∙◌, ◌+◌, ◌<◌, List, length, drop, get_or, ap, arith}
use Rattle.std.proofs.lemmas.Result.{err_from_is_err_and}
use Rattle.ts_tree.proofs.Writing.{begun_step, wrote_step}
use Rattle.ts_exec.specs.declared.outcome.ActionResult.TheVariants as ended
use Rattle.ts_model.specs.declared.plan.Action.{Action}
use Rattle.ts_perform.specs.Runs.{failure_line, failure_lines}
use Rattle.ts_perform.proofs.Failures.{failures_step}
use Rattle.ts_perform.proofs.reporting.report_failures.Goals as goal

pub loop-i-preserved : goal.loop-i-preserved
loop-i-preserved g c =
    let plan = c.args.plan.now in
    let results = c.args.results.now in
    let causes = c.args.causes.now in
    let i = c.loop-i.i in
    let cause = c.cause_at-cause.result in
    let action = c.index-actions-i.result in
    let within' : i < length results = omega arith in
    let within : i < length plan.actions = omega (arith, c.requires, within') in
    let is : action ≡ get_or plan.actions i action = c.index-actions-i.is ∙ ap (λ (l : List Action). get_or l i action) c.as_slice-actions.ensures in
    let step = failures_step c.args.explain plan.entries plan.actions results causes i action ended.Done cause within within' is c.cause_at-cause.ensures in
    wrote_step (g.E.Sink.holds c.args.err.now) (g.E.Sink.holds c.loop-i.err) (g.E.Sink.holds c.report_failure.new.err) (failure_lines c.args.explain plan.entries plan.actions results causes)
    (failure_lines c.args.explain plan.entries (drop i plan.actions) (drop i results) (drop i causes)) (failure_line c.args.explain plan.entries action (get_or results i ended.Done) cause)
    (failure_lines c.args.explain plan.entries (drop (i + 1) plan.actions) (drop (i + 1) results) (drop (i + 1) causes)) step c.loop-i.invariant c.in_ok-report_failure.ensures.told

pub returns-in_err-report_failure : goal.returns-in_err-report_failure
returns-in_err-report_failure g c =
    let p = err_from_is_err_and c.from_residual.result c.from_residual.ensures.1 in
    let plan = c.args.plan.now in
    let results = c.args.results.now in
    let causes = c.args.causes.now in
    let i = c.loop-i.i in
    let cause = c.cause_at-cause.result in
    let action = c.index-actions-i.result in
    let within' : i < length results = omega arith in
    let within : i < length plan.actions = omega (arith, c.requires, within') in
    let is : action ≡ get_or plan.actions i action = c.index-actions-i.is ∙ ap (λ (l : List Action). get_or l i action) c.as_slice-actions.ensures in
    let step = failures_step c.args.explain plan.entries plan.actions results causes i action ended.Done cause within within' is c.cause_at-cause.ensures in
    rw p.1
    (record {
      told = begun_step (g.E.Sink.holds c.args.err.now) (g.E.Sink.holds c.loop-i.err) (g.E.Sink.holds c.report_failure.new.err) (failure_lines c.args.explain plan.entries plan.actions results causes)
          (failure_lines c.args.explain plan.entries (drop i plan.actions) (drop i results) (drop i causes)) (failure_line c.args.explain plan.entries action (get_or results i ended.Done) cause)
          (failure_lines c.args.explain plan.entries (drop (i + 1) plan.actions) (drop (i + 1) results) (drop (i + 1) causes)) step c.loop-i.invariant c.in_err-report_failure.ensures.told;
    })
