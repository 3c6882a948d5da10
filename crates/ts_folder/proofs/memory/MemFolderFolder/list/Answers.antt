use Rattle.std.proofs.Common.{sym, ap, ◌∙◌, ◌≡◌, subst}
use Rattle.std.proofs.lemmas.Result.{IfOk-weaker}
use Rattle.ts_model.specs.Trees.{at}
use Rattle.ts_folder.specs.Children.{children}
use Rattle.ts_folder.specs.Folders.{AreChildren, InOrder}
use Rattle.ts_folder.proofs.Children.{are_children, children_below, children_in_order}
use Rattle.ts_folder.proofs.memory.MemFolderFolder.list.Goals as goal

pub returns-in-Dir-clause-order : goal.returns-in-Dir-clause-order
returns-in-Dir-clause-order c =
    let p = c.args.path.now in
    let rows = c.self.inside.tree in
    IfOk-weaker c.children.result (λ names. names.items ≡ children p c.sub.result.now) (λ names. InOrder names.items)
    (λ names e. subst InOrder (sym (e ∙ ap (children p) c.sub.ensures ∙ children_below p rows)) (children_in_order p rows c.rows-rows.ensures.lawful.listing.ascending)) c.children.ensures.ok

pub returns-in-Dir-clause-told : goal.returns-in-Dir-clause-told
returns-in-Dir-clause-told c =
    let p = c.args.path.now in
    let rows = c.self.inside.tree in
    let are = are_children p rows c.rows-rows.ensures.lawful.listing (sym c.in-Dir.ensures) in
    let told = subst (λ z. AreChildren (at z) p (children p rows)) c.self.view_is are in
    IfOk-weaker c.children.result (λ names. names.items ≡ children p c.sub.result.now) (λ names. AreChildren (at c.args.self.now) p names.items)
    (λ names e. subst (AreChildren (at c.args.self.now) p) (sym (e ∙ ap (children p) c.sub.ensures ∙ children_below p rows)) told) c.children.ensures.ok
