use Rattle.std.proofs.Common.{◌≡◌, ◌++◌, [], length, refl, ap, ◌∙◌}
use Rattle.std.proofs.lemmas.Result.{err_from_is_err_and}
use Rattle.sha2.specs.Hashers.{Holds256}
use Rattle.sha2.specs.Sha256.{sha256}
use Rattle.ts_model.specs.Texts.{print_lines, text}
use Rattle.ts_tree.proofs.Writing.{nothing_sent}
use Rattle.ts_archive.specs.Endings.{end_line}
use Rattle.ts_archive.proofs.Written.{begun_first, begun_last, begun_rows, header_line, last, sent_all}
use Rattle.ts_archive.proofs.encoding.encode.Goals as goal

pub returns-in_err-send-clause-written : goal.returns-in_err-send-clause-written
returns-in_err-send-clause-written g c =
    let p = err_from_is_err_and c.from_residual.result c.from_residual.ensures.1 in
    let is = c.rows-rows.ensures.listing in
    rw p.1 (begun_first c.args.print.now is header_line refl (g.W.Sink.holds c.args.sink.now) (g.W.Sink.holds c.send.new.sink) c.in_err-send.ensures.written)

pub returns-in_err-send_rows-clause-written : goal.returns-in_err-send_rows-clause-written
returns-in_err-send_rows-clause-written g c =
    let p = err_from_is_err_and c.from_residual-in_err-send_rows.result c.from_residual-in_err-send_rows.ensures.1 in
    let is = c.rows-rows.ensures.listing in
    let begun = rw c.rows-rows.ensures.rows at c.in_err-send_rows.ensures.written in
    rw p.1
    (begun_rows c.args.print.now is header_line refl (g.W.Sink.holds c.args.sink.now) (g.W.Sink.holds c.send.new.sink) (g.W.Sink.holds c.send_rows.new.sink) c.in_ok-send.ensures.written begun)

pub returns-in_err-end-clause-written : goal.returns-in_err-end-clause-written
returns-in_err-end-clause-written g c =
    let p = err_from_is_err_and c.from_residual-in_err-end.result c.from_residual-in_err-end.ensures.1 in
    let is = c.rows-rows.ensures.listing in
    let now = g.W.Sink.holds c.send_rows.new.sink in
    let added = rw c.rows-rows.ensures.rows at c.in_ok-send_rows.ensures.written in
    rw p.1
    (begun_last c.args.print.now is header_line refl (g.W.Sink.holds c.args.sink.now) (g.W.Sink.holds c.send.new.sink) now now c.in_ok-send.ensures.written added
    (nothing_sent now (last c.args.print.now is header_line refl)))

pub returns-in_err-write_line-clause-written : goal.returns-in_err-write_line-clause-written
returns-in_err-write_line-clause-written g c =
    let p = err_from_is_err_and c.from_residual-in_err-write_line.result c.from_residual-in_err-write_line.ensures.1 in
    let t = c.args.print.now in
    let is = c.rows-rows.ensures.listing in
    let added = rw c.rows-rows.ensures.rows at c.in_ok-send_rows.ensures.written in
    let hashed : Holds256 c.send_rows.new.hasher (header_line ++ text (print_lines t)) =
    rw c.rows-rows.ensures.rows at c.in_ok-send_rows.ensures.hashed header_line (c.send.ensures.hashed [] c.new-hasher.ensures) in
    let ends : c.in_ok-end.end.items ≡ end_line (length t) (sha256 (header_line ++ text (print_lines t))) =
    c.in_ok-end.ensures ∙ ap (λ n. end_line n c.finalize.result) (ap length c.rows-rows.ensures.rows) ∙ ap (end_line (length t)) (c.finalize.ensures (header_line ++ text (print_lines t)) hashed) in
    let begun = rw (c.deref.ensures.value, ends) at c.in_err-write_line.ensures.written in
    rw p.1
    (begun_last t is header_line refl (g.W.Sink.holds c.args.sink.now) (g.W.Sink.holds c.send.new.sink) (g.W.Sink.holds c.send_rows.new.sink) (g.W.Sink.holds c.write_line.new.sink)
    c.in_ok-send.ensures.written added begun)

pub returns-clause-written : goal.returns-clause-written
returns-clause-written g c =
    let t = c.args.print.now in
    let is = c.rows-rows.ensures.listing in
    let added = rw c.rows-rows.ensures.rows at c.in_ok-send_rows.ensures.written in
    let hashed : Holds256 c.send_rows.new.hasher (header_line ++ text (print_lines t)) =
    rw c.rows-rows.ensures.rows at c.in_ok-send_rows.ensures.hashed header_line (c.send.ensures.hashed [] c.new-hasher.ensures) in
    let ends : c.in_ok-end.end.items ≡ end_line (length t) (sha256 (header_line ++ text (print_lines t))) =
    c.in_ok-end.ensures ∙ ap (λ n. end_line n c.finalize.result) (ap length c.rows-rows.ensures.rows) ∙ ap (end_line (length t)) (c.finalize.ensures (header_line ++ text (print_lines t)) hashed) in
    let line = rw (c.deref.ensures.value, ends) at c.in_ok-write_line.ensures.written in
    sent_all t is header_line refl (g.W.Sink.holds c.args.sink.now) (g.W.Sink.holds c.send.new.sink) (g.W.Sink.holds c.send_rows.new.sink) (g.W.Sink.holds c.write_line.new.sink)
    c.in_ok-send.ensures.written added line
