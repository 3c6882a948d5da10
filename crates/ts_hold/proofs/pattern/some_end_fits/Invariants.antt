use Rattle.std.proofs.Common.{◌↔◌, ◌+◌, ◌∷◌, length}
use Rattle.ts_model.specs.Holds.{Fits}
use Rattle.ts_model.specs.declared.hold.Symbol.TheVariants.{Star}
use Rattle.ts_hold.proofs.pattern.some_end_fits.Given as goal

abbrev pub invariant-next : goal.invariant-next
invariant-next l = Fits (Star ∷ l.symbols) l.bytes ↔ Fits (Star ∷ l.pattern) l.name

abbrev pub decreases-next : goal.decreases-next
decreases-next l = length l.symbols + length l.bytes
