use Rattle.std.proofs.Common.{IfSome, inl, sym, subst, ◌∙◌}
use Rattle.std.proofs.lemmas.Bool.{false≢true}
use Rattle.ts_model.specs.Trees.{at}
use Rattle.ts_folder.specs.Folders.{AreChildren}
use Rattle.ts_disk.proofs.Children.{IsSaid, all_more, one_unsaid}
use Rattle.ts_disk.proofs.compare.compare_children.Goals as goal

pub returns-then-not-branch-clause-fault : goal.returns-then-not-branch-clause-fault
returns-then-not-branch-clause-fault g c =
    let told = g.F.Folder.tells c.args.folder.now in
    let items = c.deref-name-items.result.now in
    let are = subst (λ z. IfSome told (λ tree. AreChildren (at tree) c.args.path.now z)) (sym c.deref-name-items.ensures.value) c.in-Ok.ensures.told in
    inl (one_unsaid told c.args.rows.now c.args.path.now items c.loop-name.name-index c.loop-name-item.result c.loop-name-test.true c.loop-name-item.is c.list.ensures.lawful are
    (λ said. false≢true (sym c.if-not-branch.true ∙ c.in_ok-is_among.ensures.answer.1 said)))

pub loop-name-preserved : goal.loop-name-preserved
loop-name-preserved g c =
    all_more (IsSaid c.args.rows.now c.args.path.now) c.deref-name-items.result.now c.loop-name.name-index c.loop-name-item.result
    c.loop-name-test.true c.loop-name-item.is c.loop-name.invariant (c.in_ok-is_among.ensures.answer.0 c.if-not-branch.false)
