use Rattle.std.proofs.Common.{◌≡◌, ◌≢◌, ◌-◌, ◌<◌, ◌≤◌, ℕ, length, slice_index}
use Rattle.std.specs.Io.KnownBytes.{Keeps, prepend_known}
use Rattle.ts_text.proofs.lines.find_line.Given as goal

-- no line feed stands in what was looked at, and nothing was lost
abbrev pub invariant-loop-length : goal.invariant-loop-length
invariant-loop-length g l =
    (l.seen ≤ length l.window) × ((k : ℕ) → k < l.seen → slice_index l.window k ≢ 10)
    × Keeps (prepend_known l.initial.window (g.S.Source.holds l.initial.source)) (prepend_known l.window (g.S.Source.holds l.source))
    × (g.S.Source.failures l.source ≡ g.S.Source.failures l.initial.source)

abbrev pub decreases-loop-length : goal.decreases-loop-length
decreases-loop-length g l = 16385 - length l.window
