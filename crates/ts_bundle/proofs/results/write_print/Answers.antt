use Rattle.std.proofs.Common.{◌∙◌, ◌∷◌, [], refl, arith}
use Rattle.std.proofs.lemmas.Result.{err_from_is_err_and}
use Rattle.ts_model.specs.Texts.{print_lines, print_row_lines}
use Rattle.ts_model.specs.declared.row.Row.{Row}
use Rattle.ts_model.specs.declared.row.Stamp.{Stamp}
use Rattle.ts_tree.proofs.Writing.{begun_first, begun_item, wrote_item}
use Rattle.ts_bundle.proofs.results.write_print.Goals as goal

-- A beginning of the title went out.
pub returns-in_err-put_line-clause-written : goal.returns-in_err-put_line-clause-written
returns-in_err-put_line-clause-written g c =
    let p = err_from_is_err_and c.from_residual.result c.from_residual.ensures.1 in
    rw p.1 (begun_first (g.W.Sink.holds c.args.sink.now) (g.W.Sink.holds c.put_line.new.sink) (c.args.title.now ∷ []) (print_lines c.args.rows.now) c.in_err-put_line.ensures.written)

-- A beginning of this row went out.
pub returns-in_err-write_row-clause-written : goal.returns-in_err-write_row-clause-written
returns-in_err-write_row-clause-written g c =
    let p = err_from_is_err_and c.from_residual-in_err-write_row.result c.from_residual-in_err-write_row.ensures.1 in
    let rows = c.args.rows.now in
    let i = c.loop-row.row-index in
    let row = c.row-item.result in
    rw p.1
    (begun_item (λ (r : Row Stamp). print_row_lines r.path r.content) print_lines (λ x xs. refl) rows i row (omega arith) c.row-item.is
    (g.W.Sink.holds c.args.sink.now) (g.W.Sink.holds c.loop-row.sink) (g.W.Sink.holds c.write_row.new.sink) (c.args.title.now ∷ print_lines rows) c.loop-row.invariant.wrote c.in_err-write_row.ensures.written)

pub loop-row-preserved : goal.loop-row-preserved
loop-row-preserved g c =
    let rows = c.args.rows.now in
    let i = c.loop-row.row-index in
    let row = c.row-item.result in
    record {
      wrote = wrote_item (λ (r : Row Stamp). print_row_lines r.path r.content) print_lines (λ x xs. refl) rows i row (omega arith) c.row-item.is
          (g.W.Sink.holds c.args.sink.now) (g.W.Sink.holds c.loop-row.sink) (g.W.Sink.holds c.write_row.new.sink) (c.args.title.now ∷ print_lines rows) c.loop-row.invariant.wrote c.in_ok-write_row.ensures.written;
      failures = c.in_ok-write_row.ensures.failures ∙ c.loop-row.invariant.failures;
    }
