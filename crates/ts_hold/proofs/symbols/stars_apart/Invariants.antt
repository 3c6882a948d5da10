use Rattle.std.proofs.Common.{◌↔◌, length}
use Rattle.ts_model.specs.Texts.{StarsApart}
use Rattle.ts_hold.proofs.symbols.stars_apart.Given as goal

abbrev pub invariant-next : goal.invariant-next
invariant-next l = StarsApart l.rest ↔ StarsApart l.symbols

abbrev pub decreases-next : goal.decreases-next
decreases-next l = length l.rest
