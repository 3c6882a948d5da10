use Rattle.std.proofs.Common.{◌≡◌, ◌++◌, drop}
use Rattle.ts_special.specs.Specials.{joined, others}
use Rattle.ts_special.proofs.Joining.{told}
use Rattle.ts_special.proofs.specials.union.Given as goal

-- the paths so far, and those still to come
abbrev pub invariant-loop-path : goal.invariant-loop-path
invariant-loop-path l = told l.paths.items ++ drop l.path-index l.path-items ≡ l.path-items

abbrev pub invariant-loop-path-2 : goal.invariant-loop-path-2
invariant-loop-path-2 l = told l.paths.items ++ others l.first (drop l.path-index l.path-items) ≡ joined l.first l.path-items
