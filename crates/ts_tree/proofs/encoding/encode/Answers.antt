use Rattle.std.proofs.Common.{get_or, length, refl, ap, ◌∙◌, arith, ℕ, List}
use Rattle.std.proofs.lemmas.Result.{err_from_is_err_and}
use Rattle.ts_model.specs.Texts.{tree_lines, tree_row_lines}
use Rattle.ts_model.specs.declared.row.Row.{Row}
use Rattle.ts_tree.proofs.Writing.{begun_item, wrote_item}
use Rattle.ts_tree.proofs.encoding.encode.Goals as goal

-- A beginning of this row went out.
pub returns-in_err-write_row-clause-written : goal.returns-in_err-write_row-clause-written
returns-in_err-write_row-clause-written g c =
    let p = err_from_is_err_and c.from_residual.result c.from_residual.ensures.1 in
    let t = c.args.tree.now in
    let i = c.loop-row.row-index in
    let row = c.row-item.result in
    let rows = c.rows-row-items.ensures.rows in
    rw p.1
    (begun_item (λ (r : Row (List ℕ)). tree_row_lines r.path r.content) tree_lines (λ r rs. refl) t i row (omega (arith, ap length rows)) (c.row-item.is ∙ ap (λ z. get_or z i row) rows)
    (g.W.Sink.holds c.args.sink.now) (g.W.Sink.holds c.loop-row.sink) (g.W.Sink.holds c.write_row.new.sink) (tree_lines t) c.loop-row.invariant.wrote c.in_err-write_row.ensures.written)

pub loop-row-preserved : goal.loop-row-preserved
loop-row-preserved g c =
    let t = c.args.tree.now in
    let i = c.loop-row.row-index in
    let row = c.row-item.result in
    let rows = c.rows-row-items.ensures.rows in
    record {
      wrote = wrote_item (λ (r : Row (List ℕ)). tree_row_lines r.path r.content) tree_lines (λ r rs. refl) t i row (omega (arith, ap length rows)) (c.row-item.is ∙ ap (λ z. get_or z i row) rows)
          (g.W.Sink.holds c.args.sink.now) (g.W.Sink.holds c.loop-row.sink) (g.W.Sink.holds c.write_row.new.sink) (tree_lines t) c.loop-row.invariant.wrote c.in_ok-write_row.ensures.written;
      failures = c.in_ok-write_row.ensures.failures ∙ c.loop-row.invariant.failures;
    }
