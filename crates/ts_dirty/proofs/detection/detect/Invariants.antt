use Rattle.ts_dirty.proofs.Upto.{IsWalked}
use Rattle.ts_dirty.proofs.detection.detect.Given as goal

abbrev pub invariant-loop-seen : goal.invariant-loop-seen
invariant-loop-seen l = IsWalked l.fn.archive l.fn.first l.fn.second l.fn.holds l.seen-iterator l.changed_first.items l.changed_second.items l.apart.items l.held.items
