use Rattle.std.proofs.Common.{◌≡◌, ◌++◌, ℕ, List, [], drop, Some, refl, ap, ◌∙◌, subst, arith}
use Rattle.std.proofs.lemmas.List.{drop_all}
use Rattle.std.proofs.lemmas.Result.{err_from_is_err_and}
use Rattle.sha2.specs.Hashers.{Holds256}
use Rattle.ts_model.specs.Texts.{print_lines, print_row_lines, text}
use Rattle.ts_model.specs.declared.row.Row.{Row}
use Rattle.ts_model.specs.declared.row.Stamp.{Stamp}
use Rattle.ts_tree.proofs.Writing.{begun_item, nothing_sent, wrote_item}
use Rattle.ts_archive.proofs.Written.{all_hashed}
use Rattle.ts_archive.proofs.encoding.send_rows.Goals as goal

-- Of this row nothing went out.
pub returns-in_err-fill_row-clause-written : goal.returns-in_err-fill_row-clause-written
returns-in_err-fill_row-clause-written g c =
    let p = err_from_is_err_and c.from_residual.result c.from_residual.ensures.1 in
    let t = c.args.rows.now in
    let row = c.row-item.result in
    let now = g.W.Sink.holds c.loop-row.sink in
    rw p.1
    (begun_item (λ (r : Row Stamp). print_row_lines r.path r.content) print_lines (λ r rs. refl) t c.loop-row.row-index row c.loop-row-test.true c.row-item.is
    (g.W.Sink.holds c.args.sink.now) now now (print_lines t) c.loop-row.invariant.wrote (nothing_sent now (text (print_row_lines row.path row.content))))

-- A beginning of it did.
pub returns-in_err-send-clause-written : goal.returns-in_err-send-clause-written
returns-in_err-send-clause-written g c =
    let p = err_from_is_err_and c.from_residual-in_err-send.result c.from_residual-in_err-send.ensures.1 in
    let t = c.args.rows.now in
    let row = c.row-item.result in
    let begun = rw (c.deref.ensures.value, c.in_ok-fill_row.ensures) at c.in_err-send.ensures.written in
    rw p.1
    (begun_item (λ (r : Row Stamp). print_row_lines r.path r.content) print_lines (λ r rs. refl) t c.loop-row.row-index row c.loop-row-test.true c.row-item.is
    (g.W.Sink.holds c.args.sink.now) (g.W.Sink.holds c.loop-row.sink) (g.W.Sink.holds c.send.new.sink) (print_lines t) c.loop-row.invariant.wrote begun)

pub loop-row-preserved : goal.loop-row-preserved
loop-row-preserved g c =
    let t = c.args.rows.now in
    let i = c.loop-row.row-index in
    let row = c.row-item.result in
    let sent = rw (c.deref.ensures.value, c.in_ok-fill_row.ensures) at c.in_ok-send.ensures.written in
    let fed : (m : List ℕ) → Holds256 c.loop-row.hasher m → Holds256 c.send.new.hasher (m ++ text (print_row_lines row.path row.content)) =
    rw (c.deref.ensures.value, c.in_ok-fill_row.ensures) at c.send.ensures.hashed in
    record {
      wrote = wrote_item (λ (r : Row Stamp). print_row_lines r.path r.content) print_lines (λ r rs. refl) t i row c.loop-row-test.true c.row-item.is
          (g.W.Sink.holds c.args.sink.now) (g.W.Sink.holds c.loop-row.sink) (g.W.Sink.holds c.send.new.sink) (print_lines t) c.loop-row.invariant.wrote sent;
      failures = c.in_ok-send.ensures.failures ∙ c.loop-row.invariant.failures;
      hashed = λ before holds.
          let h = c.loop-row.invariant.hashed before holds in
          let more = text (print_row_lines row.path row.content) in (
            h.0 ++ more,
            fed h.0 h.1,
            wrote_item (λ (r : Row Stamp). print_row_lines r.path r.content) print_lines (λ r rs. refl) t i row c.loop-row-test.true c.row-item.is
                (Some before) (Some h.0) (Some (h.0 ++ more)) (print_lines t) h.2 refl,
          );
    }

pub returns-clause-hashed : goal.returns-clause-hashed
returns-clause-hashed g c before holds =
    let h = c.loop-row.invariant.hashed before holds in
    let t = c.args.rows.now in
    let rest : print_lines (drop c.loop-row.row-index t) ≡ [] = ap print_lines (drop_all c.loop-row.row-index t (let e = c.loop-row-test.false in omega arith)) in
    subst (λ (z : List ℕ). Holds256 c.loop-row.hasher z) (all_hashed before h.0 (print_lines t) (print_lines (drop c.loop-row.row-index t)) rest h.2) h.1
