use Rattle.std.proofs.Common.{◌≡◌, true, false, Equal}
use Rattle.ts_print.proofs.Rows.{step_first, step_nothing, same_first, not_Equal}
use Rattle.std.proofs.Common.{subst}
use Rattle.ts_model.specs.declared.row.Row.{Row}
use Rattle.ts_model.specs.declared.row.Stamp.{Stamp}
use Rattle.std.specs.Ordering.{is_eq}
use Rattle.ts_name.specs.Paths.{path_cmp}
use Rattle.ts_print.proofs.triples.step_to.Goals as goal
use Rattle.ts_name.specs.Laws.{is_eq_Equal}

pub returns-then-is_eq-clause-step : goal.returns-then-is_eq-clause-step
returns-then-is_eq-clause-step c =
    let test : is_eq (path_cmp c.row-item.result.path c.args.path.now) ≡ true = cc in
    let found = step_first c.args.rows.now c.row-item.result c.args.path.now c.requires.plain c.in-len1-up.len_at_least c.row-item.is (is_eq_Equal _ test) in found.0

pub returns-else-is_eq-clause-step : goal.returns-else-is_eq-clause-step
returns-else-is_eq-clause-step c =
    let test : is_eq (path_cmp c.row-item.result.path c.args.path.now) ≡ false = cc in
    step_nothing c.args.rows.now c.args.path.now c.requires.plain c.requires.least
    (λ row l is e. not_Equal _ test (subst (λ (r : Row Stamp). path_cmp r.path c.args.path.now ≡ Equal) (same_first c.args.rows.now row c.row-item.result l is c.row-item.is) e))
