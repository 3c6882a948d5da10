use Rattle.std.proofs.Common.{◌++◌, ap, ◌∙◌, sym, subst, arith}
use Rattle.ts_model.specs.Trees.{at}
use Rattle.ts_table.specs.Splits.{ArePartsAt}
use Rattle.ts_tree.proofs.Parts.{left_fit, parts_count, parts_fit}
use Rattle.ts_tree.proofs.tree.Tree.split.Goals as goal

pub trees_of-requires-clause-files : goal.trees_of-requires-clause-files
trees_of-requires-clause-files c =
    parts_fit c.args.self c.args.paths.now c.in-Ok-split.parts.items c.into_table.ensures.lawful (rw c.into_table.ensures.table at c.in-Ok-split.ensures.parts)

pub trees_of-requires-clause-room : goal.trees_of-requires-clause-room
trees_of-requires-clause-room c =
    let count = parts_count (at c.into_table.result) c.args.paths.now c.in-Ok-split.parts.items c.in-Ok-split.ensures.parts in
    let none = c.in-Ok.ensures.len in
    let room = c.in-Ok.ensures.exact in
    omega arith

pub invariant_of-result : goal.invariant_of-result
invariant_of-result c =
    left_fit c.args.self c.in-Ok-split.frame.rows c.args.paths.now c.into_table.ensures.lawful c.paths-paths.ensures.lawful.listing (rw c.into_table.ensures.table at c.in-Ok-split.ensures.frame)

pub returns-in-Ok-split-clause-parts : goal.returns-in-Ok-split-clause-parts
returns-in-Ok-split-clause-parts c =
    let all = c.trees_of.ensures ∙ ap (λ z. z ++ c.in-Ok-split.parts.items) c.in-Ok.ensures.items in
    subst (λ z. ArePartsAt (at c.args.self) c.args.paths.now z) (sym all) (rw c.into_table.ensures.table at c.in-Ok-split.ensures.parts)

pub returns-in-Ok-split-clause-frame : goal.returns-in-Ok-split-clause-frame
returns-in-Ok-split-clause-frame c = rw c.into_table.ensures.table at c.in-Ok-split.ensures.frame
