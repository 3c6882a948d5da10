use Rattle.std.proofs.Common.{rules, false}
use Rattle.std.proofs.lemmas.Fn.{always_returns_same}
use Rattle.ts_name.specs.Paths.{path_cmp}
use Rattle.ts_model.specs.declared.row.Content.TheVariants.{Absent}
use Rattle.ts_table.proofs.Found.{rises}
use Rattle.ts_table.proofs.Looked.{listed_found, not_listed}
use Rattle.ts_disk.proofs.Children.{absent_is, said_by_row}
use Rattle.ts_disk.proofs.compare.is_among.Goals as goal

pub returns-in_default-clause-answer : goal.returns-in_default-clause-answer
returns-in_default-clause-answer c =
    let parted = c.in_default.ensures.position (λ row. path_cmp row.path c.in-Ok.path) (always_returns_same _ _ _ (λ a r f k. search rules)) in
    said_by_row c.args.rows.now c.args.parent.now c.in-Ok.path c.args.name.now c.args.kind Absent false c.in-Ok.ensures.ok c.in-Ok.ensures.lawful
    (not_listed c.args.rows.now c.in-Ok.path c.in_default.field-0 c.in_default.ensures.bound (parted (rises c.args.rows.now c.in-Ok.path c.requires)))
    (absent_is c.args.kind)

pub returns-clause-answer : goal.returns-clause-answer
returns-clause-answer c =
    let row = c.index-rows-place.result in
    let tied = c.in-Ok-binary_search_by.ensures.position (λ row. path_cmp row.path c.in-Ok.path) (always_returns_same _ _ _ (λ a r f k. search rules)) row in
    said_by_row c.args.rows.now c.args.parent.now c.in-Ok.path c.args.name.now c.args.kind row.content c.is_of.result c.in-Ok.ensures.ok c.in-Ok.ensures.lawful
    (listed_found c.args.rows.now c.in-Ok.path c.in-Ok-binary_search_by.place row c.requires c.in-Ok-binary_search_by.ensures.bound c.index-rows-place.is tied)
    (rw c.index-rows-place.is c.is_of.ensures)
