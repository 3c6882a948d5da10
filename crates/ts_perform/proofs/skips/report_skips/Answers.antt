use Rattle.std.proofs.Common.{◌<◌, length, [], ◌∷◌, arith, refl}
use Rattle.std.proofs.lemmas.Result.{err_from_is_err_and}
use Rattle.ts_explain.specs.Skips.{skip_text}
use Rattle.ts_explain.specs.declared.skipped.Skipped.{Skipped}
use Rattle.ts_tree.proofs.Writing.{begun_item, wrote_item}
use Rattle.ts_perform.specs.Skips.{skip_lines}
use Rattle.ts_perform.proofs.skips.report_skips.Goals as goal

pub loop-i-preserved : goal.loop-i-preserved
loop-i-preserved g c =
    let skips = c.args.skips.now in
    let job = c.args.job.now in
    let within : c.loop-i.i < length skips = omega arith in
    wrote_item (λ (skipped : Skipped). skip_text job skipped ∷ []) (skip_lines job) (λ l more. refl) skips c.loop-i.i c.index-skips-i.result within c.index-skips-i.is
    (g.E.Sink.holds c.args.err.now) (g.E.Sink.holds c.loop-i.err) (g.E.Sink.holds c.write_skip.new.err) (skip_lines job skips) c.loop-i.invariant c.in_ok-write_skip.ensures.told

pub returns-in_err-write_skip : goal.returns-in_err-write_skip
returns-in_err-write_skip g c =
    let p = err_from_is_err_and c.from_residual.result c.from_residual.ensures.1 in
    let skips = c.args.skips.now in
    let job = c.args.job.now in
    let within : c.loop-i.i < length skips = omega arith in
    rw p.1
    (record {
      told = begun_item (λ (skipped : Skipped). skip_text job skipped ∷ []) (skip_lines job) (λ l more. refl) skips c.loop-i.i c.index-skips-i.result within c.index-skips-i.is
          (g.E.Sink.holds c.args.err.now) (g.E.Sink.holds c.loop-i.err) (g.E.Sink.holds c.write_skip.new.err) (skip_lines job skips) c.loop-i.invariant c.in_err-write_skip.ensures.told;
    })
