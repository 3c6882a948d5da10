use Rattle.std.proofs.Common.{ap, ◌∙◌, ◌+◌, [], ◌∷◌}
use Rattle.std.proofs.lemmas.List.{length-append}
use Rattle.ts_check.proofs.Nearests.{IsNearestIndex-push}
use Rattle.ts_check.proofs.entries.nearest_dirs.Goals as goal

pub loop-i-preserved : goal.loop-i-preserved
loop-i-preserved c = rw c.in_ok-push.ensures.items (
  length-append c.loop-i.nearest.items (c.nearest_of-dir.result ∷ []) ∙ ap (λ n. n + 1) c.loop-i.invariant.0,
  IsNearestIndex-push c.args.entries.now c.loop-i.nearest.items c.loop-i.i c.nearest_of-dir.result c.loop-i.invariant.0 c.loop-i.invariant.1 c.nearest_of-dir.ensures,
)
