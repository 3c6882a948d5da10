use Rattle.std.proofs.Common.{sym, ◌∙◌, subst}
use Rattle.std.proofs.lemmas.Bool.{false≢true}
use Rattle.std.specs.List.{AllByRecursion}
use Rattle.ts_name.specs.Paths.{IsBefore}
use Rattle.ts_model.specs.Trees.{at}
use Rattle.ts_table.specs.Tables.{IsPlace}
use Rattle.ts_table.proofs.Cuts.{IsNext-from_push, IsListing-push}
use Rattle.ts_table.proofs.table.Table.may_push.Goals as goal

pub returns-then-is_after-clause-yes : goal.returns-then-is_after-clause-yes
returns-then-is_after-clause-yes g c t content some =
    let before = subst (λ xs. AllByRecursion (λ row. IsBefore row.path c.args.path.now) xs) c.rows.ensures.rows (c.is_after.ensures.0 c.if-is_after.true) in
    let place = subst (λ xs. IsPlace (at xs) c.args.path.now) c.rows-then-is_after.ensures.rows (c.is_place_after.ensures.0 t) in
    IsListing-push c.args.self.now (record { path = c.args.path.now; content = content }) c.rows.ensures.listing c.depth.ensures.lawful some before place

pub returns-then-is_after-clause-no : goal.returns-then-is_after-clause-no
returns-then-is_after-clause-no g c e content lists =
    let next = IsNext-from_push c.args.self.now (record { path = c.args.path.now; content = content }) lists in
    let place = subst (λ xs. IsPlace (at xs) c.args.path.now) (sym c.rows-then-is_after.ensures.rows) next.place in
    false≢true (sym e ∙ c.is_place_after.ensures.1 place)

pub returns-else-is_after-clause-no : goal.returns-else-is_after-clause-no
returns-else-is_after-clause-no g c e content lists =
    let next = IsNext-from_push c.args.self.now (record { path = c.args.path.now; content = content }) lists in
    false≢true (sym c.if-is_after.false ∙ c.is_after.ensures.1 (subst (λ xs. AllByRecursion (λ row. IsBefore row.path c.args.path.now) xs) (sym c.rows.ensures.rows) next.before))
