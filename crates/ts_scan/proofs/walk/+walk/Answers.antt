use Rattle.std.proofs.Common.{rules, ◌≡◌, IfSome, ◌∷◌, ◌++◌, [], refl, sym, ap, ◌∙◌, subst, append_assoc}
use Rattle.std.proofs.lemmas.Result.{IfOk-weaker}
use Rattle.std.specs.Result.{IsOkAnd}
use Rattle.std.specs.Thread.{IsSync}
use denote.Param.{param}
use denote.Param.Send.{sendable}
use Rattle.std.proofs.Crossing.{crosses}
use Rattle.ts_scan.proofs.idle.Idle.TheSendSync as idle
use Rattle.ts_name.specs.Paths.{IsPath}
use Rattle.ts_folder.specs.Folders.{CanBe, InOrder}
use Rattle.ts_model.specs.Texts.{IsTreeBody}
use Rattle.ts_model.specs.Trees.{at}
use Rattle.ts_scan.specs.Faults.{MayFail}
use Rattle.ts_scan.specs.Openings.{IsListed, IsOpened}
use Rattle.ts_scan.specs.Scans.{Adds, Found}
use Rattle.ts_scan.specs.declared.fault.ScanFault.TheVariants.{OutOfMemory}
use Rattle.ts_scan.proofs.Faults.{may_be_deep, no_tree}
use Rattle.ts_scan.proofs.Openings.{adds_gone, adds_opened, listed_there}
use Rattle.ts_scan.proofs.Parts.{order_left, order_right}
use Rattle.ts_scan.proofs.Walks.{child_path, there_left, there_right, there_first, adds_none, adds_rest, adds_both, fails_either, adds_file, exit_tells}
use Rattle.ts_scan.proofs.walk.+walk.Goals as goal

-- ---- two parts

pub in_parts-theirs-returns-in_err-work : goal.in_parts-theirs-returns-in_err-work
in_parts-theirs-returns-in_err-work g t c =
    let told = g.F.Folder.tells c.captures.folder.now in let lets = g.F.Folder.lets c.captures.folder.now in
    let may : MayFail lets told c.in_err-work.field-0.0 = subst (MayFail lets told) (sym c.in_err-work.ensures.fault) tt in record {
      found = search rules;
      fault = λ there. exit_tells c.from_residual.result c.in_err-work.field-0.0 (MayFail lets told) c.from_residual.ensures.1 may;
    }

pub in_parts-join-back-requires-send-F : goal.in_parts-join-back-requires-send-F
in_parts-join-back-requires-send-F g t c κs within =
    let r : IsSync (param 0 g.row.R) = search rules in let f : IsSync (param 1 g.row.F) = search rules in search (sendable, crosses, idle.the_sync) depth 60 fits 5000

pub in_parts-returns-clause-found : goal.in_parts-returns-clause-found
in_parts-returns-clause-found g t c =
    let told = g.F.Folder.tells c.args.folder.now in
    IfOk-weaker c.put_together.result (λ done. IsOkAnd c.join-back.result.1 (λ work. IsOkAnd c.join-back.result.0 (λ more. done.rows.items ≡ work.rows.items ++ more.items)))
    (λ done. Adds c.args.work.rows.items done.rows.items (Found told c.args.path.now c.args.children.now))
    (λ done is. adds_both c.join-back.result.1 c.join-back.result.0 (λ work. work.rows.items) (λ more. more.items) told c.args.path.now c.parts.result.0.now c.parts.result.1.now c.args.children.now
    c.args.work.rows.items done.rows.items c.parts.ensures.whole c.requires.order c.join-back.ensures.second.0 c.join-back.ensures.first.0 is)
    c.put_together.ensures.found

pub in_parts-returns-clause-fault : goal.in_parts-returns-clause-fault
in_parts-returns-clause-fault g t c there =
    let told = g.F.Folder.tells c.args.folder.now in
    fails_either c.join-back.result.1 c.join-back.result.0 c.put_together.result (MayFail (g.F.Folder.lets c.args.folder.now) told) OutOfMemory tt
    (c.join-back.ensures.second.1 (there_left told c.args.path.now c.parts.result.0.now c.parts.result.1.now c.args.children.now c.parts.ensures.whole there))
    (c.join-back.ensures.first.1 (there_right told c.args.path.now c.parts.result.0.now c.parts.result.1.now c.args.children.now c.parts.ensures.whole there))
    c.put_together.ensures.fault

-- ---- one child

pub scan_child-returns-in_err-path-clause-fault : goal.scan_child-returns-in_err-path-clause-fault
scan_child-returns-in_err-path-clause-fault g t c there =
    let told = g.F.Folder.tells c.args.folder.now in
    exit_tells c.from_residual.result c.in_err-path.field-0.0 (MayFail (g.F.Folder.lets c.args.folder.now) told) c.from_residual.ensures.1
    (may_be_deep (g.F.Folder.lets c.args.folder.now) told c.args.parent.now c.in_err-path.field-0.0 (¬ IsPath (c.args.parent.now ++ c.args.child.now.0 ∷ []))
    (λ deep. no_tree told IsTreeBody (λ tree. CanBe (at tree (c.args.parent.now ++ c.args.child.now.0 ∷ [])) c.args.child.now.1) (λ tree body is. deep (child_path tree c.args.parent.now c.args.child.now body is)) c.requires.lawful there)
    c.in_err-path.ensures.fault)

pub scan_child-returns-in_err-open-clause-fault : goal.scan_child-returns-in_err-open-clause-fault
scan_child-returns-in_err-open-clause-fault g t c there =
    let told = g.F.Folder.tells c.args.folder.now in
    exit_tells c.from_residual-in_err-open.result c.in_err-open.field-0.0 (MayFail (g.F.Folder.lets c.args.folder.now) told) c.from_residual-in_err-open.ensures.1
    (c.in_err-open.ensures.fault (subst (λ z. IfSome told (λ tree. CanBe (at tree z) c.args.child.now.1)) (sym c.in_ok-path.ensures.path.0) there))

pub scan_child-returns-in-Gone-clause-found : goal.scan_child-returns-in-Gone-clause-found
scan_child-returns-in-Gone-clause-found g t c =
    let told = g.F.Folder.tells c.args.folder.now in
    adds_gone told c.args.parent.now c.in_ok-path.path c.args.child.now c.args.work.rows.items c.in_ok-path.ensures.path.0
    (subst (IsOpened told c.in_ok-path.path c.args.child.now.1) c.in-Gone.is c.in_ok-open.ensures.opened)

pub scan_child-returns-in_ok-push-in-File-clause-found : goal.scan_child-returns-in_ok-push-in-File-clause-found
scan_child-returns-in_ok-push-in-File-clause-found g t c =
    let told = g.F.Folder.tells c.args.folder.now in
    adds_file told c.args.parent.now c.in_ok-path.path c.args.child.now c.in-File.stamp c.args.work.rows.items c.push.new.self.rows.items
    c.requires.lawful c.in_ok-path.ensures.path.0 c.in_ok-path.ensures.path.1
    (subst (IsOpened told c.in_ok-path.path c.args.child.now.1) c.in-File.is c.in_ok-open.ensures.opened) c.in_ok-push-in-File.ensures.rows

pub scan_child-returns-in_ok-add_dir-in-Dir-clause-found : goal.scan_child-returns-in_ok-add_dir-in-Dir-clause-found
scan_child-returns-in_ok-add_dir-in-Dir-clause-found g t c =
    let told = g.F.Folder.tells c.args.folder.now in
    let opened = subst (IsOpened told c.in_ok-path.path c.args.child.now.1) c.in-Dir.is c.in_ok-open.ensures.opened in
    let listed = subst (IsListed told c.in_ok-path.path) (sym c.deref.ensures.value) opened in
    IfOk-weaker c.scan_children-done.result (λ done. Adds c.add_dir.new.work.rows.items done.rows.items (Found told c.in_ok-path.path c.deref.result.now))
    (λ done. Adds c.args.work.rows.items done.rows.items (Found told c.args.parent.now (c.args.child.now ∷ [])))
    (λ done h. adds_opened told c.args.parent.now c.in_ok-path.path c.in_ok-path.path c.args.child.now c.deref.result.now c.args.work.rows.items c.add_dir.new.work.rows.items done.rows.items
    c.in_ok-path.ensures.path.0 c.in_ok-path.ensures.path.1 refl listed c.in_ok-add_dir-in-Dir.ensures.found h)
    c.scan_children-done.ensures.found

pub scan_child-returns-in_ok-add_dir-in-Dir-clause-fault : goal.scan_child-returns-in_ok-add_dir-in-Dir-clause-fault
scan_child-returns-in_ok-add_dir-in-Dir-clause-fault g t c there =
    let told = g.F.Folder.tells c.args.folder.now in
    let opened = subst (IsOpened told c.in_ok-path.path c.args.child.now.1) c.in-Dir.is c.in_ok-open.ensures.opened in
    c.scan_children-done.ensures.fault (listed_there told c.in_ok-path.path c.deref.result.now (subst (IsListed told c.in_ok-path.path) (sym c.deref.ensures.value) opened))

-- ---- the children of a directory

pub scan_children-loop-child-init : goal.scan_children-loop-child-init
scan_children-loop-child-init g t c = ([], refl, adds_none (g.F.Folder.tells c.args.folder.now) c.args.path.now c.args.work.rows.items)

pub scan_children-in_parts-requires-clause-order : goal.scan_children-in_parts-requires-clause-order
scan_children-in_parts-requires-clause-order g t c κs within =
    order_right c.loop-child.invariant.0 c.loop-child.rest.now (subst InOrder c.loop-child.invariant.1 c.requires.order)

pub scan_children-returns-then-take-clause-found : goal.scan_children-returns-then-take-clause-found
scan_children-returns-then-take-clause-found g t c =
    let told = g.F.Folder.tells c.args.folder.now in
    let inv = c.loop-child.invariant in
    IfOk-weaker c.in_parts.result (λ done. Adds c.loop-child.work.rows.items done.rows.items (Found told c.args.path.now c.loop-child.rest.now)) (λ done. Adds c.args.work.rows.items done.rows.items (Found told c.args.path.now c.args.children.now))
    (λ done h. adds_rest told c.args.path.now inv.0 c.loop-child.rest.now c.args.children.now c.args.work.rows.items c.loop-child.work.rows.items done.rows.items inv.1 c.requires.order inv.2 h)
    c.in_parts.ensures.found

pub scan_children-returns-then-take-clause-fault : goal.scan_children-returns-then-take-clause-fault
scan_children-returns-then-take-clause-fault g t c there =
    let inv = c.loop-child.invariant in
    c.in_parts.ensures.fault (there_right (g.F.Folder.tells c.args.folder.now) c.args.path.now inv.0 c.loop-child.rest.now c.args.children.now inv.1 there)

pub scan_children-returns-in_err-work-clause-fault : goal.scan_children-returns-in_err-work-clause-fault
scan_children-returns-in_err-work-clause-fault g t c there =
    let told = g.F.Folder.tells c.args.folder.now in
    let inv = c.loop-child.invariant in
    exit_tells c.from_residual.result c.in_err-work.field-0.0 (MayFail (g.F.Folder.lets c.args.folder.now) told) c.from_residual.ensures.1
    (c.in_err-work.ensures.fault
    (there_first told c.args.path.now c.in-Some.child.now c.in-Some.others.now c.loop-child.rest.now c.in-Some.ensures.cases.0 (there_right told c.args.path.now inv.0 c.loop-child.rest.now c.args.children.now inv.1 there)))

pub scan_children-loop-child-preserved : goal.scan_children-loop-child-preserved
scan_children-loop-child-preserved g t c =
    let told = g.F.Folder.tells c.args.folder.now in
    let inv = c.loop-child.invariant in
    let child = c.in-Some.child.now in
    let others = c.in-Some.others.now in
    let split : c.args.children.now ≡ (inv.0 ++ child ∷ []) ++ others = inv.1 ∙ ap (λ z. inv.0 ++ z) c.in-Some.ensures.cases.0 ∙ sym (append_assoc inv.0 (child ∷ []) others) in (
      inv.0 ++ child ∷ [],
      split,
      adds_rest told c.args.path.now inv.0 (child ∷ []) (inv.0 ++ child ∷ []) c.args.work.rows.items c.loop-child.work.rows.items c.in_ok-work.work.rows.items refl
          (order_left (inv.0 ++ child ∷ []) others (subst InOrder split c.requires.order)) inv.2 c.in_ok-work.ensures.found,
    )
