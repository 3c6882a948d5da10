use Rattle.std.proofs.Common.{◌+◌, ◌/◌, ◌∷◌, [], length}
use Rattle.std.proofs.lemmas.Result.{err_from_is_err_and}
use Rattle.ts_model.specs.Texts.{data_lines}
use Rattle.ts_tree.specs.Fields.{file_line}
use Rattle.ts_tree.proofs.Writing.{begun_first, writes_after}
use Rattle.ts_tree.proofs.encoding.write_file.Goals as goal

pub returns-in_err-write_head-clause-written : goal.returns-in_err-write_head-clause-written
returns-in_err-write_head-clause-written g c =
    let p = err_from_is_err_and c.from_residual.result c.from_residual.ensures.1 in
    let b = c.args.bytes.now in
    rw p.1 (begun_first (g.W.Sink.holds c.args.sink.now) (g.W.Sink.holds c.write_head.new.sink) (file_line c.args.path.now (length b) ∷ []) (data_lines ((length b + 63) / 64) b) c.in_err-write_head.ensures.written)

pub returns-clause-written : goal.returns-clause-written
returns-clause-written g c =
    let b = c.args.bytes.now in
    writes_after (g.W.Sink.holds c.args.sink.now) (g.W.Sink.holds c.write_head.new.sink) (g.W.Sink.holds c.write_data.new.sink)
    (file_line c.args.path.now (length b) ∷ []) (data_lines ((length b + 63) / 64) b) c.write_data.result c.in_ok-write_head.ensures.written c.write_data.ensures.written
