use Rattle.std.proofs.Common.{◌≡◌, ℕ, ◌<◌, ◌^◌, List, [], ◌++◌, length, take, refl, sym, subst}
use Rattle.sha2.specs.Sha256.{sha256}
use Rattle.ts_model.specs.Texts.{IsTreeBody}
use Rattle.ts_model.specs.Trees.{at}
use Rattle.ts_model.specs.declared.row.Content.TheVariants.{File}
use Rattle.ts_model.specs.declared.row.Stamp.{Stamp}
use Rattle.ts_folder.specs.Folders.{IsFile}
use Rattle.ts_scan.specs.Files.{HasRead}
use Rattle.ts_scan.proofs.Reading.{read_none, read_more, read_all}
use Rattle.ts_scan.proofs.Walks.{file_fits, map_some}
use Rattle.ts_disk.proofs.Stamps.{read_other, read_whole}
use Rattle.ts_disk.proofs.compare.has_stamp.Goals as goal

pub loop-count-init : goal.loop-count-init
loop-count-init g c =
    let told = g.F.Folder.tells c.args.folder.now in (
      [],
      c.new-hasher.ensures,
      (λ p here. (
        here,
        (λ file. read_none told p
            (map_some (λ tree. IsTreeBody tree × IsFile (at tree p)) (λ tree. (bytes : List ℕ) × (at tree p ≡ File bytes) × (length bytes < 2 ^ 64)) told (λ tree h. file_fits tree p h.0 h.1) file)),
      )),
    )

pub loop-count-preserved : goal.loop-count-preserved
loop-count-preserved g c =
    let told = g.F.Folder.tells c.args.folder.now in
    let inv = c.loop-count.invariant in
    let front = inv.0 ++ take c.in-Ok.count c.fill.new.buffer in (
      front,
      c.update.ensures inv.0 inv.1,
      (λ p here. let open_now = (inv.2 p here).0 in (
        c.in-Ok.ensures.opened p open_now,
        (λ file. subst (λ k. HasRead told p k front) (sym c.in-Some.ensures.1)
            (read_more told p c.loop-count.offset c.in-Ok.count inv.0 c.fill.new.buffer ((inv.2 p here).1 file) c.in-Ok.ensures.bound (c.in-Ok.ensures.told p open_now))),
      )),
    )

pub returns-then-offset-stamp-clause-answer : goal.returns-then-offset-stamp-clause-answer
returns-then-offset-stamp-clause-answer g c = λ p here file.
    let told = g.F.Folder.tells c.args.folder.now in
    let inv = c.loop-count.invariant in
    let seen : Stamp = record { size = c.in-Some.end; digest = c.finalize.result } in
    let has = read_all told p c.loop-count.offset c.in-Ok.count inv.0 c.fill.new.buffer seen ((inv.2 p here).1 file)
    c.in-Ok.ensures.bound c.if-count-buffer.true (c.in-Ok.ensures.told p (inv.2 p here).0) c.in-Some.ensures.1
    (c.finalize.ensures (inv.0 ++ take c.in-Ok.count c.fill.new.buffer) (c.update.ensures inv.0 inv.1)) in
    read_whole told p seen c.args.stamp.now c.eq.result has c.if-offset-stamp.true c.eq.ensures

pub returns-else-offset-stamp-clause-answer : goal.returns-else-offset-stamp-clause-answer
returns-else-offset-stamp-clause-answer g c = λ p here file.
    let told = g.F.Folder.tells c.args.folder.now in
    let inv = c.loop-count.invariant in
    let front = inv.0 ++ take c.in-Ok.count c.fill.new.buffer in
    let seen : Stamp = record { size = c.in-Some.end; digest = sha256 front } in
    let has = read_all told p c.loop-count.offset c.in-Ok.count inv.0 c.fill.new.buffer seen ((inv.2 p here).1 file)
    c.in-Ok.ensures.bound c.if-count-buffer.true (c.in-Ok.ensures.told p (inv.2 p here).0) c.in-Some.ensures.1 refl in
    read_other told p seen c.args.stamp.now has c.if-offset-stamp.false
