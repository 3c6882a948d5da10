use Rattle.std.proofs.Common.{ap, ◌∙◌}
use Rattle.std.specs.List.{splice}
use Rattle.ts_table.proofs.Cuts.{IsReplaced, replaced}
use Rattle.ts_table.proofs.Drained.{drained}
use Rattle.ts_table.proofs.table.Table.replace.Goals as goal
use Rattle.ts_table.proofs.table.Table.replace.Given.{Over}
use Rattle.ts_table.proofs.table.Table.replace.Goals.{After-drop-gone}

outcome : (g : Over) (c : After-drop-gone g) → IsReplaced c.self.inside.rows.items c.splice.new.self.items c.args.path.now c.args.part
outcome g c =
    let taken = c.in_ok-_gone.ensures.items in
    let xs = drained c.in_ok-placed.placed taken.0 taken.1 taken.2.0 taken.2.1 taken.3 in
    replaced c.self.inside.rows.items c.splice.new.self.items c.args.path.now c.args.part c.bounds-start.result.0 c.bounds-start.result.1
    c.self.invariant c.bounds-start.ensures.order (rw c.deref.ensures.value at c.bounds-start.ensures.cut) (rw (← c.self.view_is) at c.requires) c.in_ok-placed.ensures.listing c.in_ok-placed.ensures.paths
    (taken.4 ∙ ap (splice c.self.inside.rows.items c.bounds-start.result.0 c.bounds-start.result.1) (xs ∙ c.in_ok-placed.ensures.ok))

pub invariant_of-self-2 : goal.invariant_of-self-2
invariant_of-self-2 g c = let h = outcome g c in h.listing

pub returns-clause-ok : goal.returns-clause-ok
returns-clause-ok g c = let h = outcome g c in rw (← c.self.view_is) h.tree
