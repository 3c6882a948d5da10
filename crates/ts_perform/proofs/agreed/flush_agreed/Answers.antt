use Rattle.std.proofs.Common.{◌≡◌, ap, map, ◌∙◌}
use Rattle.std.proofs.lemmas.Result.{IfOk-weaker}
use Rattle.std.specs.List.{All}
use Rattle.ts_model.specs.declared.plan.Plan.{Plan}
use Rattle.ts_model.specs.declared.plan.Side.TheVariants.{First, Second}
use Rattle.ts_perform.specs.Agreed.{AreFlushed, AreFlushedInBoth, agreed_entries, root_of}
use Rattle.ts_perform.proofs.Flushing.{all_listed}
use Rattle.ts_perform.proofs.agreed.flush_agreed.Goals as goal

pub returns-clause-flushed : goal.returns-clause-flushed
returns-clause-flushed g c =
    let checked = c.args.checked.now in let pair = c.args.task.now.pair.now in let entries = agreed_entries checked.plan.entries in
    let first = g.R.Disk.is_flushed_above (root_of pair First) in let second = g.R.Disk.is_flushed_above (root_of pair Second) in
    let paths = c.as_slice.result.now in let others = c.as_slice-2.result.now in
    let is = c.in_ok-entries.ensures.agreed ∙ ap (λ (p : Plan). agreed_entries p.entries) c.plan.ensures.plan in
    let listed : map (λ p. p.now) paths ≡ entries = ap (λ l. map (λ p. p.now) l) c.as_slice.ensures.value ∙ is in
    let other : map (λ p. p.now) others ≡ entries = ap (λ l. map (λ p. p.now) l) c.as_slice-2.ensures.value ∙ is in
    IfOk-weaker c.flush_around-2.result (λ _. All (λ p. second p.now) others)
    (λ _. AreFlushed g.R.Disk.is_flushed pair checked.plan.entries checked.first checked.second × AreFlushedInBoth g.R.Disk.is_flushed_above pair entries)
    (λ _ all. (
      c.in_ok-flush_existing.ensures.flushed,
      (
        all_listed first (λ p. p.now) paths entries listed c.in_ok-flush_around.ensures.flushed,
        all_listed second (λ p. p.now) others entries other all,
      ),
    ))
    c.flush_around-2.ensures.flushed
