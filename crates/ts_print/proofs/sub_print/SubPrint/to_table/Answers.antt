use Rattle.std.proofs.Common.{sym, ◌∙◌}
use Rattle.ts_table.proofs.Relative.{part_of}
use Rattle.ts_table.proofs.Uses.{one_sub_listing}
use Rattle.ts_print.proofs.sub_print.SubPrint.to_table.Goals as goal

pub returns : goal.returns
returns c = record {
  part =
      let part = part_of c.self.inside.print.now c.self.inside.top.now c.rows-rows.ensures.listing in
      rw (← c.self.view_is) (one_sub_listing _ _ c.rows-part_rows.ensures.listing part.listing (c.in_ok-part.ensures.part ∙ sym part.tree));
}
