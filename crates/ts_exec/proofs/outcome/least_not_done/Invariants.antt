use Rattle.std.proofs.Common.{◌≡◌, ◌<◌, ℕ, get_or}
use Rattle.std.specs.Prelude.{slice_index}
use Rattle.std.specs.Int.{bit_at}
use Rattle.std.specs.Mem.Slots.{slots_items}
use Rattle.ts_exec.proofs.outcome.least_not_done.Given as goal

-- those so far are done
abbrev pub invariant-loop-k : goal.invariant-loop-k
invariant-loop-k g l = (m : ℕ) → m < l.k-index → bit_at (slice_index (slots_items l.closed.row.words) (get_or l.preds m 0)) 33 ≡ 1
