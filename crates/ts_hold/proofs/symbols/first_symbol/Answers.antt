use Rattle.std.proofs.Common.{◌∷◌, ap, ◌∙◌}
use Rattle.ts_hold.proofs.Patterns.{no_escape}
use Rattle.ts_hold.proofs.symbols.first_symbol.Goals as goal

pub returns-in_err-byte-in-37 : goal.returns-in_err-byte-in-37
returns-in_err-byte-in-37 c = rw c.from_residual-in_err-byte-in-37.ensures (no_escape _ _ (c.in_ok-first.ensures.cases.0 ∙ ap (λ z. z ∷ c.in_ok-first.rest.now) c.in-37.is) c.in_err-byte-in-37.ensures)
