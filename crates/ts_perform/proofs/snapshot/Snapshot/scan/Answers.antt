use Rattle.std.proofs.Common.{IfOk, subst}
use Rattle.ts_perform.specs.Stands.{AreScans}
use Rattle.ts_perform.specs.Worlds.{world}
use Rattle.ts_perform.proofs.Archives.{seen}
use Rattle.ts_perform.proofs.snapshot.Snapshot.scan.Goals as goal

pub returns-in-Ok-clause-seen : goal.returns-in-Ok-clause-seen
returns-in-Ok-clause-seen g c =
    let w = world g.R.Disk g.R.Site.Site g.R.Folder.Folder g.R.Stage.Stage in let pair = c.args.task.now.pair.now in
    let scans = subst (λ r. IfOk r (λ s. AreScans g.R.Disk.is_at g.R.Folder.Folder.tells pair c.args.held.special s.first s.second)) c.in-Ok.is c.read-scanned.ensures.scans in
    seen w pair c.args.held c.args.archive c.in-Ok.scanned c.of.result.archive c.of.result.holds c.of.result.first c.of.result.second
    c.requires.archive c.requires.held scans c.of.ensures.archive c.of.ensures.holds c.of.ensures.first c.of.ensures.second
