use Rattle.std.proofs.Common.{IfOk, subst, sym}
use Rattle.ts_perform.specs.Stands.{AreScans}
use Rattle.ts_perform.proofs.Scanning.{both_scanned}
use Rattle.ts_perform.proofs.inputs.Scanned.read.Goals as goal

pub returns-in-Ok-clause-scans : goal.returns-in-Ok-clause-scans
returns-in-Ok-clause-scans g c =
    let pair = c.args.task.now.pair.now in let is_at = g.R.Disk.is_at in let tells = g.R.Folder.Folder.tells in
    let scans = c.scan_both_counted-archive.result.1 in let ensures = c.scan_both_counted-archive.ensures in
    subst (λ r. IfOk r (λ s. AreScans is_at tells pair c.args.special s.first s.second)) (sym c.of.ensures.scanned)
    (both_scanned is_at tells pair c.args.special c.in-Ok.first c.in-Ok.second scans.0 scans.1 c.in-Ok.ensures.first c.in-Ok.ensures.second ensures.first ensures.second)
