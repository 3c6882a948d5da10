use Rattle.std.proofs.Common.{◌≡◌, ap, map, ◌∙◌}
use Rattle.std.specs.List.{All}
use Rattle.ts_model.specs.declared.plan.Plan.{Plan}
use Rattle.ts_model.specs.declared.plan.Side.TheVariants.{First, Second}
use Rattle.ts_perform.specs.Agreed.{agreed_paths, root_of}
use Rattle.ts_perform.proofs.Flushing.{all_listed, both_ok}
use Rattle.ts_perform.proofs.agreed.flush_existing.Goals as goal

pub returns-clause-flushed : goal.returns-clause-flushed
returns-clause-flushed g c =
    let entries = c.args.checked.now.plan.entries in
    let first = g.R.Disk.is_flushed (root_of c.args.task.now.pair.now First) in let second = g.R.Disk.is_flushed (root_of c.args.task.now.pair.now Second) in
    let paths = c.as_slice.result.now in let others = c.as_slice-2.result.now in
    let listed : map (λ p. p.now) paths ≡ agreed_paths entries c.args.checked.now.first =
    ap (λ l. map (λ p. p.now) l) c.as_slice.ensures.value ∙ c.in_ok-first.ensures.agreed
    ∙ ap (λ (p : Plan). agreed_paths p.entries c.first.result.now) c.plan.ensures.plan ∙ ap (λ rows. agreed_paths entries rows) c.first.ensures in
    let other : map (λ p. p.now) others ≡ agreed_paths entries c.args.checked.now.second =
    ap (λ l. map (λ p. p.now) l) c.as_slice-2.ensures.value ∙ c.in_ok-second.ensures.agreed
    ∙ ap (λ (p : Plan). agreed_paths p.entries c.second.result.now) c.plan-2.ensures.plan ∙ ap (λ rows. agreed_paths entries rows) c.second.ensures in
    both_ok c.flush_both.result (All (λ p. first p.now) paths) (All (λ p. second p.now) others)
    (All first (agreed_paths entries c.args.checked.now.first)) (All second (agreed_paths entries c.args.checked.now.second))
    (all_listed first (λ p. p.now) paths (agreed_paths entries c.args.checked.now.first) listed)
    (all_listed second (λ p. p.now) others (agreed_paths entries c.args.checked.now.second) other)
    c.flush_both.ensures.first c.flush_both.ensures.second
