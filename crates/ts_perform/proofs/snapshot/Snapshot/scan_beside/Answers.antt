use Rattle.std.proofs.Common.{IfOk, option_map, subst}
use Rattle.ts_perform.specs.Stands.{AreScans}
use Rattle.ts_perform.specs.Worlds.{world}
use Rattle.ts_perform.proofs.Archives.{archive_at, seen}
use Rattle.ts_perform.proofs.snapshot.Snapshot.scan_beside.Goals as goal

pub returns-in-Ok-clause-seen : goal.returns-in-Ok-clause-seen
returns-in-Ok-clause-seen g c =
    let w = world g.R.Disk g.R.Site.Site g.R.Folder.Folder g.R.Stage.Stage in let pair = c.args.task.now.pair.now in
    let archive = archive_at g.R.Disk.finds pair.archive.now (option_map g.R.Opened.Read.remaining c.args.file) c.read-archive.result.0 c.in_ok-archive-2.archive
    c.requires.found c.read-archive.ensures.archive c.in_ok-archive-2.ensures.archive in
    let scans = subst (λ r. IfOk r (λ s. AreScans g.R.Disk.is_at g.R.Folder.Folder.tells pair c.args.held.special s.first s.second)) c.in-Ok.is c.read-archive.ensures.scans in
    seen w pair c.args.held c.in_ok-archive-2.archive c.in-Ok.scanned c.of.result.archive c.of.result.holds c.of.result.first c.of.result.second
    archive c.requires.held scans c.of.ensures.archive c.of.ensures.holds c.of.ensures.first c.of.ensures.second
