use Rattle.std.proofs.Common.{◌≡◌, ◌++◌, map, take}
use Rattle.ts_check.proofs.successors.push_waits.Given as goal

abbrev pub invariant-loop-pred : goal.invariant-loop-pred
invariant-loop-pred l = l.pairs.items ≡ l.fn.pairs.items ++ map (λ j. (j, l.action)) (take l.pred-index l.preds)
