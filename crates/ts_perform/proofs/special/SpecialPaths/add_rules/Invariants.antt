use Rattle.std.proofs.Common.{◌≡◌, ◌++◌, drop}
use Rattle.ts_perform.proofs.Adding.{rules_for}
use Rattle.ts_perform.proofs.special.SpecialPaths.add_rules.Given as goal

-- the rules so far, and those still to come
abbrev pub invariant-loop-path : goal.invariant-loop-path
invariant-loop-path l = l.rules ++ rules_for (drop l.path-index l.path-items) ≡ l.initial.rules ++ rules_for l.path-items
