use Rattle.std.proofs.Common.{sym, ◌∙◌, subst, ◌≡◌, true}
use Rattle.ts_name.specs.Laws.{same_path_equal, same_path_itself}
use Rattle.ts_name.specs.Paths.{same_path}
use Rattle.ts_disk.proofs.stage.DiskStage.source_file.Goals as goal

pub returns-clause-top : goal.returns-clause-top
returns-clause-top g c = (
  λ is. same_path_equal c.args.path.now c.args.entry.now.path (sym c.eq.ensures ∙ is),
  λ same. c.eq.ensures ∙ subst (λ z. same_path c.args.path.now z ≡ true) same (same_path_itself c.args.path.now),
)
