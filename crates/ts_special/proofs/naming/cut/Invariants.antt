use Rattle.std.proofs.Common.{◌<◌, ◌≤◌, ℕ, IsUtf8, length, take}
use Rattle.ts_special.proofs.naming.cut.Given as goal

-- no longer front will do
abbrev pub invariant-loop-end : goal.invariant-loop-end
invariant-loop-end l =
    (l.end ≤ 255) × (l.end ≤ length l.text) × ((n : ℕ) → l.end < n → n ≤ 255 → n ≤ length l.text → ¬ IsUtf8 (take n l.text))

abbrev pub decreases-loop-end : goal.decreases-loop-end
decreases-loop-end l = l.end
