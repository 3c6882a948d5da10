use Rattle.std.proofs.Common.{◌≡◌, ◌++◌, drop, map}
use Rattle.ts_perform.proofs.agreed.add_agreed.Given as goal

-- the paths of the rows so far were added
abbrev pub invariant-loop-row : goal.invariant-loop-row
invariant-loop-row l =
    map (λ p. p.now) l.paths.items ++ map (λ row. row.path) (drop l.row-index l.row-items) ≡ map (λ p. p.now) l.fn.paths.items ++ map (λ row. row.path) l.row-items
