use Rattle.std.proofs.Common.{◌≤◌, arith, length, subst}
use Rattle.std.proofs.lemmas.List.{take_all}
use Rattle.std.specs.List.{All}
use Rattle.ts_perform.specs.Agreed.{root_of}
use Rattle.ts_perform.proofs.Flushing.{all_further}
use Rattle.ts_perform.proofs.agreed.flush_counted.Goals as goal

pub loop-start-preserved : goal.loop-start-preserved
loop-start-preserved g c =
    let sum = c.saturating_add.ensures in let least = c.min-end.ensures in let more = c.loop-start-test.true in
    let further : c.loop-start.start ≤ c.min-end.result = omega arith in
    all_further (λ p. g.R.Disk.is_flushed (root_of c.args.task.now.pair.now c.args.side) p.now) c.args.paths.now c.loop-start.start c.min-end.result
    further c.loop-start.invariant c.in_ok-flush_at.ensures.flushed

pub returns-clause-flushed : goal.returns-clause-flushed
returns-clause-flushed g c =
    let no_more = c.loop-start-test.false in
    let all : length c.args.paths.now ≤ c.loop-start.start = omega arith in
    subst (All (λ p. g.R.Disk.is_flushed (root_of c.args.task.now.pair.now c.args.side) p.now)) (take_all c.loop-start.start c.args.paths.now all) c.loop-start.invariant
