use Rattle.ts_perform.specs.Worlds.{world}
use Rattle.ts_perform.proofs.Printing.{preview_at}
use Rattle.ts_perform.proofs.previewing.preview.Goals as goal

pub returns : goal.returns
returns g c =
    preview_at (world g.R.Disk g.R.Site.Site g.R.Folder.Folder g.R.Stage.Stage) c.args.task.now.command.now.allow_empty c.args.task.now.pair.now c.in_ok-past.past
    c.in_ok-snapshot.snapshot c.args.form (g.O.Sink.holds c.args.out.now) (g.O.Sink.holds c.print_preview.new.out) c.print_preview.result c.in_ok-snapshot.ensures.seen
    c.in_ok-past.ensures.seen c.print_preview.ensures
