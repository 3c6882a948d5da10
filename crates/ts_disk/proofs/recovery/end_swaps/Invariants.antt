use Rattle.ts_disk.specs.Swaps.{AddsNotices}
use Rattle.ts_disk.proofs.recovery.end_swaps.Given as goal

-- what was to be reported still is

abbrev pub invariant-loop-number : goal.invariant-loop-number
invariant-loop-number g l = AddsNotices l.fn.notices.items l.notices.items

abbrev pub invariant-loop-name : goal.invariant-loop-name
invariant-loop-name g l = AddsNotices l.fn.notices.items l.notices.items
