use Rattle.std.proofs.Common.{◌∷◌, ap, ◌∙◌}
use Rattle.ts_name.proofs.Escapes.{byte_from_digits}
use Rattle.ts_name.proofs.escape.split_byte.Goals as goal

pub returns-then-first-eq37 : goal.returns-then-first-eq37
returns-then-first-eq37 c =
    byte_from_digits (λ r. r.0) (λ r. r.1.now) c.args.text.now c.in_ok-first.rest.now c.split_digits.result (c.in_ok-first.ensures.cases.0 ∙ ap (λ z. z ∷ c.in_ok-first.rest.now) c.if-first-eq37.true) c.split_digits.ensures
