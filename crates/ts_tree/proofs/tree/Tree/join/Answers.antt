use Rattle.std.proofs.Common.{◌≡◌, ℕ, List, ap, ◌∙◌, sym, subst}
use Rattle.ts_model.specs.Trees.{at}
use Rattle.ts_table.specs.Splices.{grafted}
use Rattle.ts_table.specs.Splits.{FrameOf, edits_of, without}
use Rattle.ts_tree.proofs.Parts.{joined_fit}
use Rattle.ts_tree.proofs.tree.Tree.join.Goals as goal

pub from_table-requires : goal.from_table-requires
from_table-requires c =
    joined_fit c.frame.inside.frame.rows c.in-Ok-join.table c.frame.inside.frame.paths c.tables_of-tables.result.items c.frame.invariant c.tables_of-tables.ensures.files c.rows-rows.ensures.listing c.in-Ok-join.ensures.ok

pub returns-in-Ok-join-clause-ok : goal.returns-in-Ok-join-clause-ok
returns-in-Ok-join-clause-ok c =
    let parts = c.tables_of-tables.ensures.tables ∙ c.from_vec-parts.ensures.items in
    rw (← c.frame.view_is)
    (ap at c.from_table.ensures ∙ c.in-Ok-join.ensures.ok ∙ ap (λ z. grafted (at c.frame.inside.frame.rows) (edits_of c.frame.inside.frame.paths z)) parts)

pub returns-in-Ok-join-clause-whole : goal.returns-in-Ok-join-clause-whole
returns-in-Ok-join-clause-whole c t is =
    let parts = c.tables_of-tables.ensures.tables ∙ c.from_vec-parts.ensures.items in
    let inner = subst (λ (z : FrameOf (List ℕ)). at z.rows ≡ without t z.paths) (sym c.frame.view_is) is in
    ap at c.from_table.ensures ∙ c.in-Ok-join.ensures.whole t inner ∙ ap (λ z. grafted t (edits_of c.frame.inside.frame.paths z)) parts
    ∙ ap (λ (z : FrameOf (List ℕ)). grafted t (edits_of z.paths c.args.parts.items)) c.frame.view_is
