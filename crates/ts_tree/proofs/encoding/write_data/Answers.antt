use Rattle.std.proofs.Common.{◌∙◌, ◌+◌, ◌/◌, ◌<◌, ◌∷◌, [], length, subst, arith}
use Rattle.std.proofs.lemmas.Grind.{common_steps}
use Rattle.std.proofs.lemmas.Result.{err_from_is_err_and}
use Rattle.ts_model.specs.Texts.{data_lines}
use Rattle.ts_tree.specs.Fields.{data_line}
use Rattle.ts_tree.proofs.Writing.{Wrote, data_step, wrote_front, wrote_more}
use Rattle.ts_tree.proofs.encoding.write_data.Goals as goal

-- A beginning of this line went out.
pub returns-in_err-write_chunk-clause-written : goal.returns-in_err-write_chunk-clause-written
returns-in_err-write_chunk-clause-written g c =
    let p = err_from_is_err_and c.from_residual.result c.from_residual.ensures.1 in
    let b = c.loop-rest.rest.now in
    let chunk = c.split_at.result.0.now in
    let more = c.split_at.result.1.now in
    let some : 0 < length b = grind (arith, common_steps) in
    let step = data_step b chunk more c.min.result some (omega arith) c.split_at.ensures.front c.split_at.ensures.back in
    rw p.1
    (wrote_front (g.W.Sink.holds c.args.sink.now) (g.W.Sink.holds c.loop-rest.sink) (g.W.Sink.holds c.write_chunk.new.sink)
    (data_lines ((length c.args.bytes.now + 63) / 64) c.args.bytes.now) (data_line chunk ∷ []) (data_lines ((length more + 63) / 64) more)
    (subst (λ z. Wrote (g.W.Sink.holds c.args.sink.now) (g.W.Sink.holds c.loop-rest.sink) (data_lines ((length c.args.bytes.now + 63) / 64) c.args.bytes.now) z) step c.loop-rest.invariant.wrote)
    c.in_err-write_chunk.ensures.written)

pub loop-rest-preserved : goal.loop-rest-preserved
loop-rest-preserved g c =
    let b = c.loop-rest.rest.now in
    let chunk = c.split_at.result.0.now in
    let more = c.split_at.result.1.now in
    let some : 0 < length b = grind (arith, common_steps) in
    let step = data_step b chunk more c.min.result some (omega arith) c.split_at.ensures.front c.split_at.ensures.back in
    record {
      wrote = wrote_more (g.W.Sink.holds c.args.sink.now) (g.W.Sink.holds c.loop-rest.sink) (g.W.Sink.holds c.write_chunk.new.sink)
          (data_lines ((length c.args.bytes.now + 63) / 64) c.args.bytes.now) (data_line chunk ∷ []) (data_lines ((length more + 63) / 64) more)
          (subst (λ z. Wrote (g.W.Sink.holds c.args.sink.now) (g.W.Sink.holds c.loop-rest.sink) (data_lines ((length c.args.bytes.now + 63) / 64) c.args.bytes.now) z) step c.loop-rest.invariant.wrote)
          c.in_ok-write_chunk.ensures.written;
      failures = c.in_ok-write_chunk.ensures.failures ∙ c.loop-rest.invariant.failures;
    }
