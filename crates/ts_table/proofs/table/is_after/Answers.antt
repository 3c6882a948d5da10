use Rattle.std.proofs.Common.{◌-◌, length, arith, sym, ap, ◌∙◌}
use Rattle.std.specs.Ordering.{is_lt}
use Rattle.ts_name.specs.Paths.{IsBefore}
use Rattle.ts_table.proofs.Last.{all_get, all_until}
use Rattle.ts_table.proofs.table.is_after.Goals as goal
use Rattle.ts_name.proofs.Order.{is_lt_Less}

pub returns-in-Some : goal.returns-in-Some
returns-in-Some g c = (
  (λ t. all_until c.args.path.now c.args.rows.now (length c.args.rows.now - 1) c.in-Some.row.now (omega (arith, c.in-Some.ensures.item.3.0)) c.in-Some.ensures.value c.requires (is_lt_Less _ (sym c.lt.ensures ∙ t))),
  (λ all. c.lt.ensures ∙ ap is_lt (all_get (λ row. IsBefore row.path c.args.path.now) c.args.rows.now (length c.args.rows.now - 1) c.in-Some.row.now c.in-Some.ensures.value all)),
)
