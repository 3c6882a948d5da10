use Rattle.std.proofs.Common.{◌≡◌, ap, map, ◌∙◌}
use Rattle.std.proofs.lemmas.Result.{IfOk-weaker}
use Rattle.std.specs.List.{All}
use Rattle.ts_model.specs.declared.plan.Side.TheVariants.{First, Second}
use Rattle.ts_perform.specs.Agreed.{AreFlushedInBoth, root_of}
use Rattle.ts_perform.specs.Puts.{put_paths}
use Rattle.ts_perform.proofs.Flushing.{all_listed}
use Rattle.ts_perform.proofs.acting.flush_put_into.Goals as goal

pub returns : goal.returns
returns g c =
    let plan = c.args.plan.now in let pair = c.args.task.now.pair.now in
    let put = put_paths c.args.into plan.entries plan.actions c.args.results.now in
    let first = g.R.Disk.is_flushed_above (root_of pair First) in let second = g.R.Disk.is_flushed_above (root_of pair Second) in
    let paths = c.as_slice.result.now in let others = c.as_slice-2.result.now in
    let listed : map (λ p. p.now) paths ≡ put = ap (λ l. map (λ p. p.now) l) c.as_slice.ensures.value ∙ c.in_ok-paths.ensures.put in
    let other : map (λ p. p.now) others ≡ put = ap (λ l. map (λ p. p.now) l) c.as_slice-2.ensures.value ∙ c.in_ok-paths.ensures.put in
    record {
      flushed =
          IfOk-weaker c.flush_around-2.result (λ _. All (λ p. second p.now) others) (λ _. AreFlushedInBoth g.R.Disk.is_flushed_above pair put)
          (λ _ all. (all_listed first (λ p. p.now) paths put listed c.in_ok-flush_around.ensures.flushed, all_listed second (λ p. p.now) others put other all))
          c.flush_around-2.ensures.flushed;
    }
