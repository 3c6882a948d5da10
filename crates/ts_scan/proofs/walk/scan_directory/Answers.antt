use Rattle.std.proofs.Common.{sym, subst}
use Rattle.std.proofs.lemmas.Result.{IfOk-weaker}
use Rattle.ts_scan.specs.Openings.{IsListed}
use Rattle.ts_scan.specs.Scans.{Adds, Found, FoundIn}
use Rattle.ts_scan.proofs.Openings.{adds_inside, listed_there}
use Rattle.ts_scan.proofs.walk.scan_directory.Goals as goal

pub returns-clause-found : goal.returns-clause-found
returns-clause-found g c =
    let told = g.F.Folder.tells c.args.folder.now in
    let is : IsListed told c.args.path.now c.in-Ok.children.items = record { order = c.in-Ok.ensures.order; lawful = c.list.ensures.lawful; all = c.in-Ok.ensures.told } in
    let listed = subst (IsListed told c.args.path.now) (sym c.deref.ensures.value) is in
    IfOk-weaker c.scan_children-done.result (λ done. Adds c.make_room.new.self.rows.items done.rows.items (Found told c.args.path.now c.deref.result.now))
    (λ done. Adds c.args.work.rows.items done.rows.items (FoundIn told c.args.path.now))
    (λ done h. adds_inside told c.args.path.now c.deref.result.now c.args.work.rows.items done.rows.items listed (subst (λ z. Adds z done.rows.items (Found told c.args.path.now c.deref.result.now)) c.make_room.ensures.rows h))
    c.scan_children-done.ensures.found

pub returns-clause-fault : goal.returns-clause-fault
returns-clause-fault g c dir =
    let told = g.F.Folder.tells c.args.folder.now in
    let is : IsListed told c.args.path.now c.in-Ok.children.items = record { order = c.in-Ok.ensures.order; lawful = c.list.ensures.lawful; all = c.in-Ok.ensures.told } in
    c.scan_children-done.ensures.fault (listed_there told c.args.path.now c.deref.result.now (subst (IsListed told c.args.path.now) (sym c.deref.ensures.value) is))
