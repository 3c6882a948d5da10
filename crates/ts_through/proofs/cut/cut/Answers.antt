use Rattle.std.proofs.Common.{List, ℕ, ap, ◌∙◌, subst}
use Rattle.ts_model.specs.Trees.{Listing, at}
use Rattle.ts_name.specs.Paths.{Path}
use Rattle.ts_table.specs.Splits.{ArePartsAt, without}
use Rattle.ts_through.proofs.cut.cut.Goals as goal

pub returns-clause-rows : goal.returns-clause-rows
returns-clause-rows c =
    c.in-Ok.ensures.frame ∙ ap (λ t. without (at t) c.as_slice.result.now) c.in_ok-tree.ensures
    ∙ ap (λ paths. without (at c.args.tree.now) paths) (c.as_slice.ensures.value ∙ c.in_ok-paths.ensures)

pub returns-clause-laid : goal.returns-clause-laid
returns-clause-laid c =
    c.lay.ensures.laid (at c.args.tree.now)
    (subst (λ (paths : List Path). ArePartsAt (at c.args.tree.now) paths c.in-Ok.taken.items) (c.as_slice.ensures.value ∙ c.in_ok-paths.ensures)
    (subst (λ (t : Listing (List ℕ)). ArePartsAt (at t) c.as_slice.result.now c.in-Ok.taken.items) c.in_ok-tree.ensures c.in-Ok.ensures.parts))
