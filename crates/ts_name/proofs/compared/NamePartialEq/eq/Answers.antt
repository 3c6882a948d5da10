use Rattle.std.proofs.Common.{◌∙◌, ap₂}
use Rattle.ts_name.specs.Paths.{same_name}
use Rattle.ts_name.proofs.Order.{same_name_held}
use Rattle.ts_name.proofs.compared.NamePartialEq.eq.Goals as goal

pub returns-clause-value : goal.returns-clause-value
returns-clause-value c =
    c.eq.ensures ∙ same_name_held c.as_bytes.result.now c.as_bytes-2.result.now ∙ ap₂ same_name c.as_bytes.ensures.value c.as_bytes-2.ensures.value
