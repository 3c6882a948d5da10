use Rattle.std.proofs.Common.{◌≡◌, ◌++◌, [], ◌∷◌, rules, sym, ap, ◌∙◌, subst, append_assoc, append-nil}
use Rattle.std.proofs.lemmas.List.{nil_from_length}
use Rattle.std.specs.List.{AllByRecursion}
use Rattle.ts_name.specs.Paths.{IsPath}
use Rattle.ts_model.specs.declared.row.Row.{Row}
use Rattle.ts_table.specs.Tables.{placed}
use Rattle.ts_table.proofs.Exits.{exit_itself}
use Rattle.ts_table.proofs.Placing.{past_limit, paths_push, placed_push}
use Rattle.ts_table.proofs.subtable.SubTable.placed.Goals as goal

pub returns-in_err-path-clause-too_long : goal.returns-in_err-path-clause-too_long
returns-in_err-path-clause-too_long g c too =
    past_limit c.args.top.now c.args.self c.loop-row.yielded c.next.new.self.rest.items c.in-Some.row
    (c.loop-row.invariant.left ∙ ap (λ z. c.loop-row.yielded ++ z) c.in-Some.ensures.steps.0)
    (c.in_err-path.ensures.too_long (exit_itself c.from_residual-in_err-path.result c.in_err-path.field-0.0 c.from_residual-in_err-path.ensures.1 too))

pub loop-row-preserved : goal.loop-row-preserved
loop-row-preserved g c =
    let p = c.args.top.now in
    let done = c.loop-row.yielded in
    let row = c.in-Some.row in
    let path_is : (c.in_ok-path.path ≡ p ++ row.path) × IsPath c.in_ok-path.path = search rules in
    record {
      rows_are =
          c.in_ok-push.ensures.items ∙ ap (λ z. c.loop-row.rows.items ++ record { path = z; content = row.content } ∷ []) path_is.0
          ∙ ap (λ z. z ++ record { path = p ++ row.path; content = row.content } ∷ []) c.loop-row.invariant.rows_are ∙ sym (placed_push p done row);
      paths = paths_push p done row c.loop-row.invariant.paths (subst IsPath path_is.0 path_is.1);
      left = c.loop-row.invariant.left ∙ ap (λ z. done ++ z) c.in-Some.ensures.steps.0 ∙ sym (append_assoc done (row ∷ []) c.next.new.self.rest.items);
    }

pub returns-clause-ok : goal.returns-clause-ok
returns-clause-ok g c =
    let ended = nil_from_length c.loop-row.row-iterator.rest.items (sym c.loop-row.row-iterator.rest.ok.0 ∙ c.in-None.ensures.steps.0) in
    c.loop-row.invariant.rows_are ∙ ap (placed c.args.top.now) (sym (c.loop-row.invariant.left ∙ ap (λ z. c.loop-row.yielded ++ z) ended ∙ append-nil c.loop-row.yielded))

pub returns-clause-paths : goal.returns-clause-paths
returns-clause-paths g c =
    let ended = nil_from_length c.loop-row.row-iterator.rest.items (sym c.loop-row.row-iterator.rest.ok.0 ∙ c.in-None.ensures.steps.0) in
    let all = c.loop-row.invariant.left ∙ ap (λ z. c.loop-row.yielded ++ z) ended ∙ append-nil c.loop-row.yielded in
    subst (λ z. AllByRecursion (λ (row : Row _). IsPath row.path) (placed c.args.top.now z)) (sym all) c.loop-row.invariant.paths
