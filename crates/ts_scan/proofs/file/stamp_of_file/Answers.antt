use Rattle.std.proofs.Common.{◌≡◌, ℕ, ◌+◌, ◌<◌, ◌≤◌, ◌^◌, List, [], ◌++◌, length, take, sym, subst, IfSome, arith}
use Rattle.ts_model.specs.Texts.{IsTreeBody}
use Rattle.ts_model.specs.Trees.{at}
use Rattle.ts_model.specs.declared.row.Content.TheVariants.{File}
use Rattle.ts_folder.specs.Folders.{IsFile}
use Rattle.ts_folder.specs.declared.folder.Call.TheVariants as call
use Rattle.ts_scan.specs.Files.{HasRead}
use Rattle.ts_scan.proofs.Faults.{no_tree, refused_fails, told_fails}
use Rattle.ts_scan.proofs.Reading.{read_none, read_more, read_past, read_all}
use Rattle.ts_scan.proofs.Walks.{both_some, file_fits}
use Rattle.ts_scan.proofs.file.stamp_of_file.Goals as goal

pub loop-count-init : goal.loop-count-init
loop-count-init g c = (
  c.in-Ok.ensures.opened,
  (
    [],
    c.new-hasher.ensures,
    read_none (g.F.Folder.tells c.args.folder.now) c.args.path.now
        (both_some IsTreeBody (λ tree. IsFile (at tree c.args.path.now)) (λ tree. (bytes : List ℕ) × (at tree c.args.path.now ≡ File bytes) × (length bytes < 2 ^ 64)) (g.F.Folder.tells c.args.folder.now)
        (λ tree body is. file_fits tree c.args.path.now body is) c.open_file.ensures.lawful c.in-Ok.ensures.told),
  ),
)

pub loop-count-preserved : goal.loop-count-preserved
loop-count-preserved g c =
    let inv = c.loop-count.invariant in
    let more = read_more (g.F.Folder.tells c.args.folder.now) c.args.path.now c.loop-count.offset c.in-Ok-fill.count inv.1.0 c.fill.new.buffer inv.1.2 c.in-Ok-fill.ensures.bound (c.in-Ok-fill.ensures.told c.args.path.now inv.0) in (
      c.in-Ok-fill.ensures.opened c.args.path.now inv.0,
      (
        inv.1.0 ++ take c.in-Ok-fill.count c.fill.new.buffer,
        c.update.ensures inv.1.0 inv.1.1,
        subst (λ k. HasRead (g.F.Folder.tells c.args.folder.now) c.args.path.now k (inv.1.0 ++ take c.in-Ok-fill.count c.fill.new.buffer)) (sym c.in-Some.ensures.1) more,
      ),
    )

pub returns-clause-stamp : goal.returns-clause-stamp
returns-clause-stamp g c =
    let inv = c.loop-count.invariant in
    let all = c.update.ensures inv.1.0 inv.1.1 in
    read_all (g.F.Folder.tells c.args.folder.now) c.args.path.now c.loop-count.offset c.in-Ok-fill.count inv.1.0 c.fill.new.buffer (record { size = c.in-Some.end; digest = c.finalize.result }) inv.1.2
    c.in-Ok-fill.ensures.bound c.if-count-buffer.true (c.in-Ok-fill.ensures.told c.args.path.now inv.0) c.in-Some.ensures.1 (c.finalize.ensures (inv.1.0 ++ take c.in-Ok-fill.count c.fill.new.buffer) all)

pub returns-in-Err-clause-fault : goal.returns-in-Err-clause-fault
returns-in-Err-clause-fault g c there =
    let told = g.F.Folder.tells c.args.folder.now in
    told_fails (g.F.Folder.lets c.args.folder.now) told call.Read c.args.path.now (IfSome told (λ tree. ¬ IsFile (at tree c.args.path.now))) c.in-Err.fault c.told.result
    (λ missing. no_tree told (λ tree. ¬ IsFile (at tree c.args.path.now)) (λ tree. IsFile (at tree c.args.path.now)) (λ tree none is. none is) missing there) c.in-Err.ensures.fault c.told.ensures

pub returns-in-Err-fill-clause-fault : goal.returns-in-Err-fill-clause-fault
returns-in-Err-fill-clause-fault g c there =
    told_fails (g.F.Folder.lets c.args.folder.now) (g.F.Folder.tells c.args.folder.now) call.Read c.args.path.now ⊥ c.in-Err-fill.fault c.told-in-Err-fill.result (λ none. absurd none)
    (c.in-Err-fill.ensures.fault c.args.path.now c.loop-count.invariant.0) c.told-in-Err-fill.ensures

pub returns-in_default-clause-fault : goal.returns-in_default-clause-fault
returns-in_default-clause-fault g c there =
    let told = g.F.Folder.tells c.args.folder.now in let inv = c.loop-count.invariant in
    let past : 2 ^ 64 ≤ c.loop-count.offset + c.in-Ok-fill.count = omega (arith, c.in_default.ensures) in
    refused_fails (g.F.Folder.lets c.args.folder.now) told c.args.path.now c.refused.result
    (read_past told c.args.path.now c.loop-count.offset c.in-Ok-fill.count inv.1.0 c.fill.new.buffer inv.1.2 c.in-Ok-fill.ensures.bound (c.in-Ok-fill.ensures.told c.args.path.now inv.0) past)
    c.refused.ensures
