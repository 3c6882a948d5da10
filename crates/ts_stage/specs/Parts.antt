-- The bytes of parts that were seen, one after another.
use Rattle.std.specs.Prelude.{ℕ, List, [], ◌++◌}
use Rattle.ts_stage.specs.declared.seen.Parts.{Parts, Nothing, These, Both'}

abbrev pub all_parts : Parts → List ℕ
all_parts Nothing = []
all_parts (These bytes) = bytes.value
all_parts (Both' a before b after) = all_parts before ++ all_parts after
