use Rattle.std.proofs.Common.{◌≡◌, length}
use Rattle.ts_exec.proofs.crew.Crew.gather.Given as goal

abbrev pub invariant-loop-share : goal.invariant-loop-share
invariant-loop-share l = (length l.queues.items ≡ l.share-index) × (length l.owned.items ≡ l.share-index)
