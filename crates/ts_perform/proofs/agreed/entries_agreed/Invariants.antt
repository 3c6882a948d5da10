use Rattle.std.proofs.Common.{◌≡◌, ◌++◌, drop, map}
use Rattle.ts_perform.specs.Agreed.{agreed_entries}
use Rattle.ts_perform.proofs.agreed.entries_agreed.Given as goal

-- those of the entries so far were added
abbrev pub invariant-loop-entry : goal.invariant-loop-entry
invariant-loop-entry l = map (λ p. p.now) l.paths.items ++ agreed_entries (drop l.entry-index l.entry-items) ≡ agreed_entries l.entry-items
