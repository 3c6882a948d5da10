use Rattle.std.proofs.Common.{subst, sym}
use Rattle.ts_check.specs.Checkup.{Checkup}
use Rattle.ts_perform.specs.Snapshots.{IsCheckupAt}
use Rattle.ts_perform.specs.Worlds.{world}
use Rattle.ts_perform.proofs.Printing.{judges_less}
use Rattle.ts_perform.proofs.performing.check_plan.Goals as goal

pub returns : goal.returns
returns g c =
    let pair = c.args.task.now.pair.now in
    judges_less _ _ (g.O.Sink.holds c.args.out.now) (g.O.Sink.holds c.print_verdict.new.out) c.print_verdict.result
    (λ k is. subst (λ (k : Checkup). IsCheckupAt (world g.R.Disk g.R.Site.Site g.R.Folder.Folder g.R.Stage.Stage) pair c.args.plan.now k) (sym is)
    (record { seen = c.in_ok-snapshot.ensures.seen; plan = c.in_ok-snapshot.ensures.plan }))
    c.print_verdict.ensures
