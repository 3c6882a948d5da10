use Rattle.std.proofs.Common.{◌≡◌, IfSome, ◌∙◌, sym, subst}
use Rattle.ts_model.specs.Trees.{at, print_of}
use Rattle.ts_scan.proofs.Walks.{adds_all, found_listing, found_print}
use Rattle.ts_scan.proofs.scanning.scan.Goals as goal

pub from_rows-requires : goal.from_rows-requires
from_rows-requires g c =
    let told = g.F.Folder.tells c.args.folder.now in
    rw (c.shrink_to_fit.ensures.items, c.into_rows-rows.ensures) (found_listing told c.in_ok-done.done.rows.items (adds_all told c.root-root.result c.in_ok-work.work.rows.items c.in_ok-done.done.rows.items c.root-root.ensures c.in_ok-work.ensures.found c.in_ok-done.ensures.found))

pub returns-clause-print : goal.returns-clause-print
returns-clause-print g c =
    let told = g.F.Folder.tells c.args.folder.now in
    let found = adds_all told c.root-root.result c.in_ok-work.work.rows.items c.in_ok-done.done.rows.items c.root-root.ensures c.in_ok-work.ensures.found c.in_ok-done.ensures.found in
    subst (λ z. IfSome told (λ tree. at z ≡ print_of (at tree))) (sym (c.from_table.ensures ∙ c.from_rows.ensures ∙ c.shrink_to_fit.ensures.items ∙ c.into_rows-rows.ensures)) (found_print told c.in_ok-done.done.rows.items found)
