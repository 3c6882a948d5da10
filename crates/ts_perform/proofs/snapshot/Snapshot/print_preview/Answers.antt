use Rattle.ts_perform.proofs.Printing.{preview_shown}
use Rattle.ts_perform.proofs.snapshot.Snapshot.print_preview.Goals as goal

pub returns : goal.returns
returns g c =
    rw c.shown.ensures (preview_shown c.args.allow_empty c.args.past c.args.self.now c.in_ok-plan.plan c.args.form (g.O.Sink.holds c.args.out.now) (g.O.Sink.holds c.print_outlooks-printed.new.out)
    c.print_outlooks-printed.result c.look_at-looked_at.result c.print_outlooks-printed.ensures c.look_at-looked_at.ensures.through c.look_at-looked_at.ensures.back
    c.look_at-looked_at.ensures.quiet)
