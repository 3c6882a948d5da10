use Rattle.std.proofs.Common.{◌≡◌, ◌++◌, drop, map}
use Rattle.ts_perform.specs.Agreed.{agreed_paths}
use Rattle.ts_perform.proofs.agreed.paths_agreed.Given as goal

-- those of the entries so far were added
abbrev pub invariant-loop-entry : goal.invariant-loop-entry
invariant-loop-entry l =
    map (λ p. p.now) l.paths.items ++ agreed_paths (drop l.entry-index l.entry-items) l.fn.print ≡ agreed_paths l.entry-items l.fn.print
