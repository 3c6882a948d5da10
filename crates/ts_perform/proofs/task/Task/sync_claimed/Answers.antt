use Rattle.std.proofs.Common.{◌↔◌, Bool, IsTrue, subst, sym}
use Rattle.ts_check.specs.Checkup.{Checkup}
use Rattle.ts_perform.specs.Guards.{IsLetThrough, IsTaught}
use Rattle.ts_perform.specs.Snapshots.{IsPlanned}
use Rattle.ts_perform.proofs.Reported.{ran_less}
use Rattle.ts_perform.proofs.task.Task.sync_claimed.Goals as goal

pub returns : goal.returns
returns g c = record {
  ran = ran_less c.args.self.now.command.now _ _ (g.O.Sink.holds c.args.out.now) (g.O.Sink.holds c.carry_out.new.out)
      (g.E.Sink.holds c.args.err.now) (g.E.Sink.holds c.carry_out.new.err) c.carry_out.result
      (λ came is. record {
        planned = subst IsPlanned (sym is.checkup) c.in_ok-plan.ensures.planned;
        past = c.in_ok-past.past;
        known = c.in_ok-past.ensures.known;
        through = subst (IsLetThrough c.args.self.now.command.now.allow_empty c.in_ok-past.past) (sym is.checkup) c.in_ok-look_at.ensures.through;
        taught = subst (λ (k : Checkup). IsTrue came.teaches ↔ IsTaught c.in_ok-past.past k.plan) (sym is.checkup)
            (subst (λ (teaches : Bool). IsTrue teaches ↔ IsTaught c.in_ok-past.past c.in_ok-plan.plan) (sym is.taught) c.teaches.ensures);
        carried_out = is.carried_out;
      })
      c.carry_out.ensures.ran;
}
