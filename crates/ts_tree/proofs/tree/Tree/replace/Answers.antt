use Rattle.std.proofs.Common.{ap, ◌∙◌, sym, subst}
use Rattle.ts_model.specs.Runs.{graft}
use Rattle.ts_model.specs.Trees.{at, listed}
use Rattle.ts_tree.specs.Trees.{FilesFit}
use Rattle.ts_tree.proofs.Parts.{replaced_body}
use Rattle.ts_tree.proofs.tree.Tree.replace.Goals as goal

pub invariant_of-self-2 : goal.invariant_of-self-2
invariant_of-self-2 c =
    replaced_body c.self.inside.table c.replace.new.self c.into_table.result c.args.path.now c.self.invariant c.rows-rows.ensures.listing
    (subst FilesFit (sym c.into_table.ensures.table) c.into_table.ensures.lawful.files) c.in_ok-replace.ensures.ok

pub returns-clause-ok : goal.returns-clause-ok
returns-clause-ok c =
    rw (← c.self.view_is) (c.in_ok-replace.ensures.ok ∙ ap (λ z. graft (at c.self.inside.table) c.args.path.now (listed z)) c.into_table.ensures.table)
