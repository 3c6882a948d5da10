use Rattle.std.proofs.Common.{◌≢◌, IfSome}
use Rattle.std.specs.List.{AllByRecursion}
use Rattle.ts_model.specs.Texts.{IsTreeBody}
use Rattle.ts_model.specs.Trees.{at}
use Rattle.ts_model.specs.declared.row.Content.TheVariants.{Absent}
use Rattle.ts_scan.proofs.Walks.{exit_tells}
use Rattle.ts_disk.specs.Compared.{Has, MayEnd, Troubles}
use Rattle.ts_disk.proofs.Children.{all_more}
use Rattle.ts_disk.proofs.Rows.{has_more, one_missing, pushed}
use Rattle.ts_disk.proofs.compare.compare_rows.Goals as goal

pub returns-in_err-look-clause-fault : goal.returns-in_err-look-clause-fault
returns-in_err-look-clause-fault g c =
    let told = g.F.Folder.tells c.args.folder.now in
    let troubles = Troubles (g.F.Folder.lets c.args.folder.now) in
    exit_tells c.from_residual.result c.in_err-look.field-0.0 (MayEnd troubles (IfSome told (λ tree. ¬ AllByRecursion (Has (at tree) c.args.rows.now) c.args.rows.now))) c.from_residual.ensures.1
    (one_missing troubles told c.args.rows.now c.loop-row.row-index c.row-item.result c.in_err-look.field-0.0 c.loop-row-test.true c.row-item.is c.in_err-look.ensures.fault)

pub loop-row-preserved : goal.loop-row-preserved
loop-row-preserved g c =
    let told = g.F.Folder.tells c.args.folder.now in
    let inv = c.loop-row.invariant in (
      has_more told c.args.rows.now c.loop-row.row-index c.row-item.result c.loop-row-test.true c.row-item.is inv.0 c.in_ok-look.ensures.same,
      pushed c.push.result c.loop-row.looks.items c.push.new.self.items c.in_ok-look.look c.loop-row.row-index c.if-is_err.ensures.value c.push.ensures.items inv.1,
      all_more (λ row. row.content ≢ Absent → IfSome told IsTreeBody) c.args.rows.now c.loop-row.row-index c.row-item.result c.loop-row-test.true c.row-item.is inv.2 c.in_ok-look.ensures.lawful,
    )
