use Rattle.std.proofs.Common.{◌-◌, length, take}
use Rattle.std.specs.List.{All}
use Rattle.ts_perform.specs.Agreed.{root_of}
use Rattle.ts_perform.proofs.agreed.flush_counted.Given as goal

-- the paths so far were flushed
abbrev pub invariant-loop-start : goal.invariant-loop-start
invariant-loop-start g l = All (λ p. g.R.Disk.is_flushed (root_of l.fn.task.pair.now l.fn.side) p.now) (take l.start l.fn.paths)

abbrev pub decreases-loop-start : goal.decreases-loop-start
decreases-loop-start g l = length l.paths - l.start
