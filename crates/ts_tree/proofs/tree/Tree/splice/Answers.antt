use Rattle.ts_tree.proofs.Parts.{spliced_body}
use Rattle.ts_tree.proofs.tree.Tree.splice.Goals as goal

pub invariant_of-self-2 : goal.invariant_of-self-2
invariant_of-self-2 c =
    spliced_body c.self.inside.table c.splice.new.self c.args.edits.items c.self.invariant c.rows-rows.ensures.listing c.requires.files c.in_ok-splice.ensures.ok
