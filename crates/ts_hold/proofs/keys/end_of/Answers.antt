use Rattle.std.proofs.Common.{◌∙◌, ap}
use Rattle.ts_hold.specs.Mixing.{mixed}
use Rattle.ts_hold.proofs.Lookups.{end_more}
use Rattle.ts_hold.proofs.keys.end_of.Goals as goal

pub next-preserved : goal.next-preserved
next-preserved c = end_more _ _ c.in-Byte.byte _ _ _ _ c.next.invariant c.in-Some.ensures.cases.0 c.in-Byte.is (c.mixed-key.ensures ∙ ap (λ z. mixed c.next.key z) c.from.ensures)
