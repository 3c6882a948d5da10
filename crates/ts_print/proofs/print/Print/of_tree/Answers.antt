use Rattle.std.proofs.Common.{◌≡◌, ap, ◌∙◌}
use Rattle.std.proofs.lemmas.Result.{IfOk-weaker}
use Rattle.ts_model.specs.Trees.{at, print_of}
use Rattle.ts_print.specs.Prints.{stamped_rows}
use Rattle.ts_print.proofs.Stamping.{print-stamped}
use Rattle.ts_print.proofs.print.Print.of_tree.Goals as goal

pub returns : goal.returns
returns c = record {
  print =
      IfOk-weaker c.of_rows.result (λ print. print ≡ stamped_rows c.rows.result.now) (λ print. at print ≡ print_of (at c.args.tree.now))
      (λ print e. ap at (e ∙ ap stamped_rows c.rows.ensures.rows) ∙ print-stamped c.args.tree.now) c.of_rows.ensures.rows;
}
