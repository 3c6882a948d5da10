use Rattle.std.proofs.Common.{◌∷◌, [], ◌++◌}
use Rattle.std.proofs.lemmas.Result.{err_from_is_err_and}
use Rattle.ts_model.specs.Texts.{tree_lines}
use Rattle.ts_tree.specs.Fields.{IsNoHead}
use Rattle.ts_tree.specs.Readers.{BeginsNoTree}
use Rattle.ts_tree.proofs.Readers.{no_head, no_room}
use Rattle.ts_tree.proofs.Refusals.{refuses_weaker}
use Rattle.ts_tree.proofs.reader.begin_row.Goals as goal

-- A line that begins no row comes next in no tree.
pub returns-in_err-path-clause-refused : goal.returns-in_err-path-clause-refused
returns-in_err-path-clause-refused c =
    let p = err_from_is_err_and c.from_residual.result c.from_residual.ensures.1 in
    rw (p.1, p.2) (refuses_weaker (IsNoHead c.args.line.now) (BeginsNoTree (tree_lines c.args.tree ++ c.args.line.now ∷ [])) c.in_err-path.field-0.0
    (no_head c.args.tree c.args.line.now c.requires) c.in_err-path.ensures.refused)

-- Nor does one whose path may not.
pub returns-then-not-may_push-clause-refused : goal.returns-then-not-may_push-clause-refused
returns-then-not-may_push-clause-refused c =
    let row = c.in_ok-path.ensures.found in
    no_room c.args.tree c.args.line.now c.in_ok-path.path c.in_ok-path.head c.requires row.0 row.1 row.2 (c.may_push.ensures.no c.if-not-may_push.true)
