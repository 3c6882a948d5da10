use Rattle.std.proofs.Common.{ap, ◌∙◌}
use Rattle.ts_model.specs.Trees.{at, listed}
use Rattle.ts_model.specs.Runs.{graft}
use Rattle.ts_table.proofs.Relative.{listed_dir}
use Rattle.ts_table.proofs.table.Table.make_dir.Goals as goal

pub returns-in-Ok-clause-ok : goal.returns-in-Ok-clause-ok
returns-in-Ok-clause-ok g c =
    c.in-Ok.ensures.ok ∙ ap (graft (at c.args.self.now) c.args.path.now) (ap listed c.in_ok-bare.ensures.ok ∙ listed_dir)
