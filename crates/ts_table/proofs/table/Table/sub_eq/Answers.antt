use Rattle.std.proofs.Common.{sym, ◌∙◌}
use Rattle.ts_table.proofs.Listings.{same_sub, same_rows_below}
use Rattle.ts_table.proofs.table.Table.sub_eq.Goals as goal

pub returns : goal.returns
returns g c = (
  (λ t. same_sub c.args.self.now c.args.other.now c.args.path.now (sym c.sub.ensures.rows ∙ c.same_rows.ensures.0 t ∙ c.sub-2.ensures.rows)),
  (λ e. c.same_rows.ensures.1 (c.sub.ensures.rows ∙ same_rows_below c.args.self.now c.args.other.now c.args.path.now c.sub.ensures.listing c.sub-2.ensures.listing e ∙ sym c.sub-2.ensures.rows)),
)
