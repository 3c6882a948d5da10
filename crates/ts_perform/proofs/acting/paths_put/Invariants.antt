use Rattle.std.proofs.Common.{◌≡◌, ◌++◌, drop, map}
use Rattle.ts_perform.specs.Puts.{put_paths}
use Rattle.ts_perform.proofs.acting.paths_put.Given as goal

abbrev pub invariant-loop-i : goal.invariant-loop-i
invariant-loop-i l =
    map (λ p. p.now) l.paths.items ++ put_paths l.side l.fn.plan.entries (drop l.i l.fn.plan.actions) (drop l.i l.results) ≡ put_paths l.side l.fn.plan.entries l.fn.plan.actions l.results
