use Rattle.std.proofs.Common.{◌≡◌, ◌++◌, drop}
use Rattle.ts_through.specs.Parts.{paths_from}
use Rattle.ts_through.proofs.cut.paths_of.Given as goal

-- the paths so far and those of the entries to come are those of all entries
abbrev pub invariant-loop-entry : goal.invariant-loop-entry
invariant-loop-entry l = l.paths.items ++ paths_from l.from (drop l.entry-index l.entries) ≡ paths_from l.from l.entries
