use Rattle.std.proofs.Common.{ap, ◌∙◌}
use Rattle.ts_model.specs.Trees.{listed}
use Rattle.ts_tree.proofs.tree.Tree.sub_tree.Goals as goal

pub returns : goal.returns
returns c = record { part = ap listed c.from_table.ensures ∙ c.in_ok-sub_table.ensures.part }
