use Rattle.std.proofs.Common.{◌≡◌, ℕ, List, drop, Some}
use Rattle.sha2.specs.Hashers.{Holds256}
use Rattle.ts_model.specs.Texts.{print_lines}
use Rattle.ts_tree.proofs.Writing.{Wrote}
use Rattle.ts_archive.proofs.encoding.send_rows.Given as goal

-- what was written, and hashed, are the lines of the rows so far
abbrev pub invariant-loop-row : goal.invariant-loop-row
invariant-loop-row g l = record {
  wrote : Wrote (g.W.Sink.holds l.fn.sink) (g.W.Sink.holds l.sink) (print_lines l.rows) (print_lines (drop l.row-index l.rows));
  failures : g.W.Sink.failures l.sink ≡ g.W.Sink.failures l.fn.sink;
  hashed : (before : List ℕ) → Holds256 l.fn.hasher before → (now : List ℕ) × Holds256 l.hasher now × Wrote (Some before) (Some now) (print_lines l.rows) (print_lines (drop l.row-index l.rows));
}
