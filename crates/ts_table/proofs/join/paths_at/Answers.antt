use Rattle.std.proofs.Common.{[], ◌∷◌, ◌++◌, take, sym, ap, ap₂, ◌∙◌, subst}
use Rattle.std.proofs.lemmas.List.{map-append, take_all}
use Rattle.std.specs.List.{AllByRecursion}
use Rattle.ts_name.proofs.Utf8.{all_append}
use Rattle.ts_name.specs.Paths.{IsPath}
use Rattle.ts_model.specs.declared.row.Row.{Row}
use Rattle.ts_table.specs.Slots.{paths_of}
use Rattle.ts_table.specs.Tables.{placed}
use Rattle.ts_table.proofs.Exits.{exit_itself}
use Rattle.ts_table.proofs.Placing.{placed_more}
use Rattle.ts_table.proofs.Putting.{placed_at}
use Rattle.ts_table.proofs.join.paths_at.Goals as goal

pub returns-in_err-joined-clause-too_long : goal.returns-in_err-joined-clause-too_long
returns-in_err-joined-clause-too_long g c too all =
    c.in_err-joined.ensures.too_long (exit_itself c.from_residual.result c.in_err-joined.field-0.0 c.from_residual.ensures.1 too)
    (placed_at c.args.top.now c.args.rows.now c.loop-row.row-index c.row-item.result c.loop-row-test.true c.row-item.is all)

pub loop-row-preserved : goal.loop-row-preserved
loop-row-preserved g c =
    let top = c.args.top.now in
    let front = take c.loop-row.row-index c.args.rows.now in
    let row = c.row-item.result in
    let path_is = c.in_ok-joined.ensures.ok in
    let more = placed_more top c.args.rows.now c.loop-row.row-index row c.loop-row-test.true c.row-item.is in
    record {
      names =
          c.in_ok-push.ensures.items ∙ ap₂ (λ x y. x ++ y ∷ []) c.loop-row.invariant.names path_is.0
          ∙ sym (ap paths_of more ∙ map-append (λ (r : Row _). r.path) (placed top front) (record { path = top ++ row.path; content = row.content } ∷ []));
      are =
          subst (λ z. AllByRecursion (λ (r : Row _). IsPath r.path) z) (sym more)
          (all_append (λ (r : Row _). IsPath r.path) (placed top front) _ c.loop-row.invariant.are (subst IsPath path_is.0 path_is.1, tt));
    }

pub returns-clause-names : goal.returns-clause-names
returns-clause-names g c = c.loop-row.invariant.names ∙ ap (λ z. paths_of (placed c.args.top.now z)) (take_all c.loop-row.row-index c.args.rows.now c.loop-row-test.false)

pub returns-clause-paths : goal.returns-clause-paths
returns-clause-paths g c = subst (λ z. AllByRecursion (λ (r : Row _). IsPath r.path) (placed c.args.top.now z)) (take_all c.loop-row.row-index c.args.rows.now c.loop-row-test.false) c.loop-row.invariant.are
