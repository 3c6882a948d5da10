use Rattle.std.proofs.Common.{rules, sym}
use Rattle.std.proofs.lemmas.Fn.{always_returns_same}
use Rattle.ts_name.specs.Paths.{path_cmp}
use Rattle.ts_table.proofs.Found.{rises}
use Rattle.ts_table.proofs.Looked.{not_listed}
use Rattle.ts_name.specs.Laws.{tied_paths}
use Rattle.ts_stage.proofs.staged.find.Goals as goal

pub returns-in-Ok-clause-path : goal.returns-in-Ok-clause-path
returns-in-Ok-clause-path c row =
    tied_paths _ _ (c.in-Ok.ensures.position (λ row. path_cmp row.path c.args.path.now) (always_returns_same _ _ _ (λ a r f k. search rules)) row)

pub returns-in-Err-clause-none : goal.returns-in-Err-clause-none
returns-in-Err-clause-none c =
    let parted = c.in-Err.ensures.position (λ row. path_cmp row.path c.args.path.now) (always_returns_same _ _ _ (λ a r f k. search rules)) in
    sym (not_listed c.args.rows.now c.args.path.now c.in-Err.field-0 c.in-Err.ensures.bound (parted (rises c.args.rows.now c.args.path.now c.requires)))
