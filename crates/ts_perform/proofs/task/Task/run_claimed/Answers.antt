use Rattle.std.proofs.Common.{subst, sym}
use Rattle.ts_check.specs.Checkup.{Checkup}
use Rattle.ts_model.specs.Texts.{IsPlanText}
use Rattle.ts_perform.specs.Inputs.{IsReadAt}
use Rattle.ts_perform.proofs.Reported.{ran_less}
use Rattle.ts_perform.proofs.task.Task.run_claimed.Goals as goal

pub returns : goal.returns
returns g c = record {
  ran = ran_less c.args.self.now.command.now _ _ (g.O.Sink.holds c.args.out.now) (g.O.Sink.holds c.carry_out.new.out)
      (g.E.Sink.holds c.args.err.now) (g.E.Sink.holds c.carry_out.new.err) c.carry_out.result
      (λ came is. record {
        plan = subst (λ (k : Checkup). IsReadAt g.R.Disk.finds IsPlanText c.args.plan.now k.plan) (sym is.checkup) c.in_ok-snapshot.ensures.plan;
        taught = is.taught;
        carried_out = is.carried_out;
      })
      c.carry_out.ensures.ran;
}
