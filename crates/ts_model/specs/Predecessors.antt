-- The numbers of predecessors, by how they are kept.
use Rattle.std.specs.Prelude.{List, ℕ, []}
use Rattle.ts_model.specs.declared.predecessors.Numbers.{Numbers}
use Rattle.ts_model.specs.declared.predecessors.Numbers.TheVariants.{Nothing, One, More}

abbrev pub numbers_in : Numbers → List ℕ
numbers_in Nothing = []
numbers_in (One one) = one
numbers_in (More numbers) = numbers.value.items
