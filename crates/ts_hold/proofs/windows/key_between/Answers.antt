use Rattle.std.proofs.Common.{◌+◌, arith}
use Rattle.ts_hold.proofs.Between.{HasRun, no_run, run_key, run_more}
use Rattle.ts_hold.proofs.windows.key_between.Goals as goal
use Rattle.ts_hold.proofs.windows.key_between.Goals.{in-Star, in-Byte, then-run-bytes+else-is_none, else-run-bytes}

-- the run with the symbol, where its key is free, and where the loop goes on
free : (c : goal.Then-is_none) → HasRun c.args.pattern.now (c.loop-symbol.symbol-index + 1) c.match-symbol.run c.match-symbol.number
free c = elim c.match-symbol.branch [
  | in-Star w ↦ rw (w.number-is, w.run-is) (no_run c.args.pattern.now (c.loop-symbol.symbol-index + 1))
  | in-Byte w ↦ rw (w.number-is, w.run-is) (run_more _ _ _ _ w.in-Byte.byte _ _ c.loop-symbol.invariant.run c.loop-symbol-test.true w.in-Byte.is w.shifted-number.ensures)
]

run : (c : goal.Joined-run-bytes) → HasRun c.args.pattern.now (c.loop-symbol.symbol-index + 1) c.match-symbol.run c.match-symbol.number
run c = elim c.match-symbol.branch [
  | in-Star w ↦ rw (w.number-is, w.run-is) (no_run c.args.pattern.now (c.loop-symbol.symbol-index + 1))
  | in-Byte w ↦ rw (w.number-is, w.run-is) (run_more _ _ _ _ w.in-Byte.byte _ _ c.loop-symbol.invariant.run c.loop-symbol-test.true w.in-Byte.is w.shifted-number.ensures)
]

pub loop-symbol-init : goal.loop-symbol-init
loop-symbol-init c = record { run = no_run c.args.pattern.now 0; found = tt }

pub returns-then-is_none : goal.returns-then-is_none
returns-then-is_none c = run_key _ _ _ _ _ c.args.size (free c) (omega (arith, c.if-run-bytes.true, c.bytes.ensures)) c.window_key-key.ensures

pub loop-symbol-preserved : goal.loop-symbol-preserved
loop-symbol-preserved c = record {
  run = run c;
  found = elim c.if-run-bytes.branch [
    | then-run-bytes+else-is_none w ↦ rw (w.found-is) (run_key _ _ _ _ _ c.args.size (run c) (omega (arith, w.if-run-bytes.true, c.bytes.ensures)) w.window_key-key.ensures)
    | else-run-bytes w ↦ rw (w.found-is) c.loop-symbol.invariant.found
  ];
}
