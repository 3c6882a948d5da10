use Rattle.std.proofs.Common.{◌≡◌, arith, subst, sym}
use Rattle.std.proofs.lemmas.Grind.{common_steps}
use Rattle.ts_model.specs.Trees.{IsListing}
use Rattle.ts_print.specs.Prints.{stamped_rows}
use Rattle.ts_print.proofs.Stamping.{IsListing-stamped}
use Rattle.ts_print.proofs.print.Print.of_rows.Goals as goal

pub from_rows-requires : goal.from_rows-requires
from_rows-requires c =
    let all : c.loop-row.made.items ≡ stamped_rows c.args.rows.now = grind (arith, common_steps) in
    subst IsListing (sym all) (IsListing-stamped c.args.rows.now c.requires)
