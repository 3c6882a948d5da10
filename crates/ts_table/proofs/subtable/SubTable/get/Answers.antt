use Rattle.std.proofs.Common.{rules, ◌∙◌}
use Rattle.std.proofs.lemmas.Fn.{always_returns_same}
use Rattle.ts_name.specs.Paths.{path_cmp}
use Rattle.ts_table.proofs.Found.{rises}
use Rattle.ts_table.proofs.Looked.{listed_found, not_listed}
use Rattle.ts_table.proofs.subtable.SubTable.get.Goals as goal

pub returns-in-Ok : goal.returns-in-Ok
returns-in-Ok g c =
    let tied = c.in-Ok.ensures.position (λ row. path_cmp row.path c.args.path.now) (always_returns_same _ _ _ (λ a r f k. search rules)) c.index.result.now in
    rw (← c.self.view_is)
    (c.content_of.ensures
    ∙ listed_found c.self.inside.rows.items c.args.path.now c.in-Ok.index c.index.result.now c.self.invariant.ascending (rw c.deref.ensures.value at c.in-Ok.ensures.bound) c.index.ensures (rw c.deref.ensures.value at tied))

pub returns-in-Err : goal.returns-in-Err
returns-in-Err g c =
    let parted = c.in-Err.ensures.position (λ row. path_cmp row.path c.args.path.now) (always_returns_same _ _ _ (λ a r f k. search rules)) in
    rw (← c.self.view_is)
    (not_listed c.self.inside.rows.items c.args.path.now c.in-Err.field-0 (rw c.deref.ensures.value at c.in-Err.ensures.bound)
    (rw c.deref.ensures.value at parted (rises c.self.inside.rows.items c.args.path.now c.self.invariant.ascending)))
