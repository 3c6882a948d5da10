use Rattle.std.proofs.Common.{ap, ◌∙◌}
use Rattle.ts_model.specs.Trees.{at}
use Rattle.tree_calls.proofs.carried.carried.Goals as goal

pub carry_through-requires-clause-first : goal.carry_through-requires-clause-first
carry_through-requires-clause-first g c κs within = ap at c.in_ok-checked.ensures.first ∙ c.in_ok-first_print.ensures

pub carry_through-requires-clause-second : goal.carry_through-requires-clause-second
carry_through-requires-clause-second g c κs within = ap at c.in_ok-checked.ensures.second ∙ c.in_ok-second_print.ensures
