use Rattle.std.proofs.Common.{IfSome}
use Rattle.ts_hold.specs.Windows.{IsWindowKey}
use Rattle.ts_hold.proofs.Between.{HasRun}
use Rattle.ts_hold.proofs.windows.key_between.Given as goal

abbrev pub invariant-loop-symbol : goal.invariant-loop-symbol
invariant-loop-symbol l = record {
  run : HasRun l.pattern l.symbol-index l.run l.number;
  found : IfSome l.found (IsWindowKey l.pattern l.size);
}
