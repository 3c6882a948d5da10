use Rattle.std.proofs.Common.{sym, eqb-true}
use Rattle.ts_hold.proofs.RuleLines.{nothing_named}
use Rattle.ts_hold.proofs.lines.parse_named.Goals as goal

pub returns-then-is_empty : goal.returns-then-is_empty
returns-then-is_empty c = nothing_named _ (eqb-true _ 0 (sym c.if-is_empty.ensures))
