use Rattle.std.proofs.Common.{rules, ◌≢◌, [], sym, ◌∙◌}
use Rattle.std.proofs.lemmas.Bool.{false≢true}
use Rattle.std.proofs.lemmas.Fn.{always_returns_same}
use Rattle.ts_name.specs.Paths.{path_cmp}
use Rattle.ts_table.proofs.Found.{rises, found, not_found}
use Rattle.ts_table.proofs.table.Table.get.Goals as goal

pub returns-in-Ok : goal.returns-in-Ok
returns-in-Ok g c =
    let some : c.args.path.now ≢ [] = λ e. false≢true (sym c.if-is_root.false ∙ c.is_root.ensures.1 e) in
    let tied = c.in-Ok.ensures.position (λ row. path_cmp row.path c.args.path.now) (always_returns_same _ _ _ (λ a r f k. search rules)) c.index.result.now in
    rw (← c.self.view_is)
    (c.content_of.ensures
    ∙ found c.self.inside.rows.items c.args.path.now c.in-Ok.index c.index.result.now c.self.invariant.ascending some (rw c.deref.ensures.value at c.in-Ok.ensures.bound) c.index.ensures (rw c.deref.ensures.value at tied))

pub returns-in-Err : goal.returns-in-Err
returns-in-Err g c =
    let some : c.args.path.now ≢ [] = λ e. false≢true (sym c.if-is_root.false ∙ c.is_root.ensures.1 e) in
    let parted = c.in-Err.ensures.position (λ row. path_cmp row.path c.args.path.now) (always_returns_same _ _ _ (λ a r f k. search rules)) in
    rw (← c.self.view_is)
    (not_found c.self.inside.rows.items c.args.path.now c.in-Err.field-0 some (rw c.deref.ensures.value at c.in-Err.ensures.bound)
    (rw c.deref.ensures.value at parted (rises c.self.inside.rows.items c.args.path.now c.self.invariant.ascending)))
