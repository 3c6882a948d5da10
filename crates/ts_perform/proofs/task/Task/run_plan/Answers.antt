use Rattle.std.proofs.Common.{refl}
use Rattle.std.proofs.lemmas.Result.{err_from_is_err_and}
use Rattle.ts_perform.proofs.Reported.{nothing_left, quiet_right}
use Rattle.ts_perform.proofs.task.Task.run_plan.Goals as goal

pub returns-in_err-claims : goal.returns-in_err-claims
returns-in_err-claims g c =
    let p = err_from_is_err_and c.from_residual.result c.from_residual.ensures.1 in
    rw (p.1, p.2) (record { ran = (quiet_right _ c.in_err-claims.ensures.quiet, refl, nothing_left c.args.self.now.command.now.explain (g.E.Sink.holds c.args.err.now)) })
